-- General terms as terms, and what items bind.
use Rattle.std.proofs.Common.{◌≡◌, ℕ, zero, suc, ◌+◌, ◌<◌, ◌≤◌, Bool, true, false, ◌&&◌, ◌||◌, List, [], ◌∷◌, ◌++◌, length, map, drop, get_or, cond, refl, ap, sym, ◌∙◌, subst, arith}
use Rattle.std.specs.Prelude.{Option, None, Some, option_map, option_and_then, unwrap_or, flat_map, codes, if◌then◌else◌}
use Rattle.std.specs.List.{list_all}
use Rattle.std.proofs.lemmas.Bool.{and_parts}
use Rattle.std.proofs.lemmas.Grind.{flat_map-append}
use Rattle.fol_base.specs.Tree.{Tree, variable, application, trees_of, tree_then as then_trees}
use Rattle.tptp_tree.specs.Term.{TermTree, application as named_application}
use Rattle.tptp_source.specs.General.{GeneralTree, variable as general_variable, word, dollar, number as general_number, distinct, negated, listed, joined, GeneralTrees, no_trees, tree_then, list_of_trees, trees_of as generals_of, tree_size as general_size, trees_size as generals_size}
use Rattle.tptp_source.specs.Shape.{tree_of as general_of}
use Rattle.tptp_source.specs.declared.term.GeneralTerm.{GeneralTerm}
use Rattle.tptp_source.specs.declared.term.GeneralTerm.TheVariants.{Variable, Word}
use Rattle.kernel_steps.specs.Parents.{all_there}
use Rattle.signature.specs.declared.symbol.SymbolKind.TheVariants.{Function}
use Rattle.signature.specs.Symbol.{number_of}
use Rattle.signature.specs.Occurrences.{terms_count, term_symbols, terms_symbols}
use Rattle.signature.specs.Environment.{term_names, terms_names, terms_under}
use Rattle.clausal_form.specs.DerivationClause.{numbered_from, term_by}
use Rattle.clausal_form.specs.DerivationItems.{arguments, has_word, items_with, only_one, list_in}
use Rattle.tptp_source.specs.Items.{term_in, term_before, terms_in}
use Rattle.tstp_lines.specs.declared.numbers.LineNumbers.{LineNumbers}
use Rattle.tstp_lines.specs.Tables.{with_name, place_of_name}
use Rattle.tstp_lines.specs.Numbers.{symbol_for, Meets, numbering_of}
use Rattle.tstp_lines.specs.Bindings.{is_term, are_terms, as_term, as_terms, symbols_of, names_of, by_numbers, IsGeneralTerm, AreGeneralTerms, list_at, list_of_item, binding_in, symbols_of_item, names_of_item, binding_by, symbols_bound, names_bound, AreBindings, IsBinding}
use Rattle.tstp_lines.proofs.AboutReadings.NumberLemmas.{meets-nothing, meets-then, head-tree, variable-tree}
use Rattle.tstp_lines.proofs.AboutReadings.WalkLemmas.{Walks, walks-begin, walks-go, walks-met, walks-made}
use Rattle.list_lemmas.proofs.Lists.{length-mapped}
use Rattle.list_lemmas.proofs.Places.{drop-item, drop-all}

-- ---- sizes

general-item : (ts : List GeneralTerm) (i : ℕ) (d : GeneralTerm) → i < length ts → general_size (general_of (get_or ts i d)) ≤ generals_size (generals_of (map general_of ts))
general-item [] i d h = absurd (omega arith)
general-item (t ∷ ts) zero d h = omega arith
general-item (t ∷ ts) (suc i) d h = omega (arith, general-item ts i d (omega arith))

pub general-item-is :
    (ts : List GeneralTerm) (i : ℕ) (t : GeneralTerm)
    → i < length ts → t ≡ get_or ts i t → general_size (general_of t) ≤ generals_size (generals_of (map general_of ts))
general-item-is ts i t h e = omega (arith, general-item ts i t h, ap (λ u. general_size (general_of u)) e)

-- ---- lists of general terms

pub listed-generals : (gs : List GeneralTree) → list_of_trees (generals_of gs) ≡ gs
listed-generals [] = refl
listed-generals (g ∷ gs) = ap (λ hs. g ∷ hs) (listed-generals gs)

pub are-all : (gs : List GeneralTree) → are_terms (generals_of gs) ≡ list_all is_term gs
are-all [] = refl
are-all (g ∷ gs) = ap (λ b. is_term g && b) (are-all gs)

count-all : (gs : List GeneralTree) → terms_count (as_terms (generals_of gs)) ≡ length gs
count-all [] = refl
count-all (g ∷ gs) = omega (arith, count-all gs)

symbols-all : (gs : List GeneralTree) → flat_map symbols_of gs ≡ terms_symbols (as_terms (generals_of gs))
symbols-all [] = refl
symbols-all (g ∷ gs) = ap (λ ss. symbols_of g ++ ss) (symbols-all gs)

names-all : (gs : List GeneralTree) → flat_map names_of gs ≡ terms_names (as_terms (generals_of gs))
names-all [] = refl
names-all (g ∷ gs) = ap (λ xs. names_of g ++ xs) (names-all gs)

trees-all :
    (m : LineNumbers) (gs : List GeneralTree)
    → trees_of (map (by_numbers m) gs) ≡ terms_under m.symbols (numbered_from 0 m.variables) (as_terms (generals_of gs))
trees-all m [] = refl
trees-all m (g ∷ gs) = ap (then_trees (by_numbers m g)) (trees-all m gs)

-- ---- what general terms say

mutual
  term-in : (g : GeneralTree) → term_in g ≡ (if is_term g then Some (as_term g) else None)
  term-in (general_variable x) = refl
  term-in (word f ts) = ap (option_map (named_application f)) (terms-in ts) ∙ by (are_terms ts)
    where
      by :
          (b : Bool)
          → option_map (named_application f) (if b then Some (as_terms ts) else None)
          ≡ (if b then Some (as_term (word f ts)) else None)
      by true = refl
      by false = refl
  term-in (dollar d ts) = refl
  term-in (general_number s n) = refl
  term-in (distinct d) = refl
  term-in (negated f) = refl
  term-in (listed ts) = refl
  term-in (joined ts) = refl

  terms-in : (gs : GeneralTrees) → terms_in gs ≡ (if are_terms gs then Some (as_terms gs) else None)
  terms-in no_trees = refl
  terms-in (tree_then g gs) =
      ap (λ o. term_before o (terms_in gs)) (term-in g)
      ∙ ap (term_before (if is_term g then Some (as_term g) else None)) (terms-in gs)
      ∙ by (is_term g) (are_terms gs)
    where
      by :
          (a b : Bool)
          → term_before (if a then Some (as_term g) else None) (if b then Some (as_terms gs) else None)
          ≡ (if a && b then Some (as_terms (tree_then g gs)) else None)
      by true true = refl
      by true false = refl
      by false b = refl

all-in : (gs : List GeneralTree) → all_there (map term_in gs) ≡ (if list_all is_term gs then Some (map as_term gs) else None)
all-in [] = refl
all-in (g ∷ gs) =
    ap (option_and_then (λ u. option_map (λ us. u ∷ us) (all_there (map term_in gs)))) (term-in g)
    ∙ ap (λ os. option_and_then (λ u. option_map (λ us. u ∷ us) os) (if is_term g then Some (as_term g) else None)) (all-in gs)
    ∙ by (is_term g) (list_all is_term gs)
  where
    by :
        (a b : Bool)
        → option_and_then (λ u. option_map (λ us. u ∷ us) (if b then Some (map as_term gs) else None)) (if a then Some (as_term g) else None)
        ≡ (if a && b then Some (map as_term (g ∷ gs)) else None)
    by true true = refl
    by true false = refl
    by false b = refl

-- the terms of a list, where all are terms
abbrev pub terms_there : List GeneralTree → Option (List TermTree)
terms_there gs = if list_all is_term gs then Some (map as_term gs) else None

pub binding-there : (g : GeneralTree) → binding_in g ≡ option_and_then terms_there (list_of_item g)
binding-there g = by (only_one (arguments g))
  where
    at : (h : GeneralTree) → list_in term_in h ≡ option_and_then terms_there (list_at h)
    at (general_variable x) = refl
    at (word f ts) = refl
    at (dollar d ts) = refl
    at (general_number s n) = refl
    at (distinct d) = refl
    at (negated f) = refl
    at (listed ts) = all-in (list_of_trees ts)
    at (joined ts) = refl

    by : (o : Option GeneralTree) → option_and_then (list_in term_in) o ≡ option_and_then terms_there (option_and_then list_at o)
    by None = refl
    by (Some h) = at h

-- ---- words

same-word :
    (t : GeneralTerm) (f name : List ℕ) (gs : List GeneralTree) (ts : List GeneralTerm)
    → t ≡ Word f gs → name ≡ f → map general_of ts ≡ gs → word name (generals_of (map general_of ts)) ≡ general_of t
same-word t f name gs ts e n a =
    ap (λ x. word x (generals_of (map general_of ts))) n ∙ ap (λ hs. word f (generals_of hs)) a ∙ sym (ap general_of e)

counted : (ts : List GeneralTerm) → length ts ≡ terms_count (as_terms (generals_of (map general_of ts)))
counted ts = sym (count-all (map general_of ts) ∙ length-mapped general_of ts)

head :
    (n m : LineNumbers) (name : List ℕ) (ts : List GeneralTerm)
    → Meets n m (symbol_for Function name (length ts) ∷ []) []
    → Meets n m (symbol_for Function name (terms_count (as_terms (generals_of (map general_of ts)))) ∷ []) []
head n m name ts a = subst (λ i. Meets n m (symbol_for Function name i ∷ []) []) (counted ts) a

rest :
    (m k : LineNumbers) (gs : List GeneralTree)
    → Meets m k (flat_map symbols_of gs) (flat_map names_of gs)
    → Meets m k (terms_symbols (as_terms (generals_of gs))) (terms_names (as_terms (generals_of gs)))
rest m k gs a =
    subst (λ xs. Meets m k (terms_symbols (as_terms (generals_of gs))) xs) (names-all gs)
    (subst (λ ss. Meets m k ss (flat_map names_of gs)) (symbols-all gs) a)

pub word-met :
    (n m k : LineNumbers) (t : GeneralTerm) (f name : List ℕ) (gs : List GeneralTree) (ts : List GeneralTerm)
    → t ≡ Word f gs → name ≡ f → map general_of ts ≡ gs → Meets n m (symbol_for Function name (length ts) ∷ []) []
    → Meets m k (flat_map symbols_of (map general_of ts)) (flat_map names_of (map general_of ts))
    → Meets n k (symbols_of (general_of t)) (names_of (general_of t))
word-met n m k t f name gs ts e x a b c =
    subst (λ g. Meets n k (symbols_of g) (names_of g)) (same-word t f name gs ts e x a)
    (meets-then n m k _ _ [] _ (head n m name ts b) (rest m k (map general_of ts) c))

pub word-tree :
    (n m k : LineNumbers) (t : GeneralTerm) (f name : List ℕ) (gs : List GeneralTree) (ts : List GeneralTerm) (us : List Tree) (number : ℕ)
    → t ≡ Word f gs → name ≡ f → map general_of ts ≡ gs → Meets n m (symbol_for Function name (length ts) ∷ []) []
    → number ≡ number_of m.symbols (symbol_for Function name (length ts))
    → Meets m k (flat_map symbols_of (map general_of ts)) (flat_map names_of (map general_of ts))
    → AreGeneralTerms k (map general_of ts) us → IsGeneralTerm k (general_of t) (application number (trees_of us))
word-tree n m k t f name gs ts us number e x a b p c trees =
    subst (λ g. IsGeneralTerm k g (application number (trees_of us))) (same-word t f name gs ts e x a)
    (λ l g.
    head-tree n m k l Function name (as_terms (generals_of (map general_of ts))) (trees_of us) number (head n m name ts b)
    (p ∙ ap (λ i. number_of m.symbols (symbol_for Function name i)) (counted ts)) (rest m k (map general_of ts) c)
    (λ j h. ap trees_of (trees j h) ∙ trees-all j (map general_of ts)) g)

pub variable-general :
    (known names : List (List ℕ)) (t : GeneralTerm) (x name : List ℕ) (number : ℕ) (n : LineNumbers)
    → t ≡ Variable x → name ≡ x → names ≡ with_name known name → number ≡ place_of_name names name → n.variables ≡ names
    → IsGeneralTerm n (general_of t) (variable number)
variable-general known names t x name number n e same met p v =
    subst (λ g. IsGeneralTerm n g (variable number)) (ap general_variable same ∙ sym (ap general_of e))
    (variable-tree known names name number n met p v)

pub word-terms :
    (t : GeneralTerm) (f : List ℕ) (gs : List GeneralTree) (ts : List GeneralTerm)
    → t ≡ Word f gs → map general_of ts ≡ gs → list_all is_term (map general_of ts) ≡ is_term (general_of t)
word-terms t f gs ts e a = ap (list_all is_term) a ∙ sym (are-all gs) ∙ sym (ap (λ u. is_term (general_of u)) e)

pub word-size :
    (t : GeneralTerm) (f : List ℕ) (gs : List GeneralTree) (ts : List GeneralTerm)
    → t ≡ Word f gs → map general_of ts ≡ gs → 1 + generals_size (generals_of (map general_of ts)) ≡ general_size (general_of t)
word-size t f gs ts e a = ap (λ hs. 1 + generals_size (generals_of hs)) a ∙ sym (ap (λ u. general_size (general_of u)) e)

-- ---- what an item binds

pub unbound : (g : GeneralTree) (gs : List GeneralTree) → Some gs ≡ list_of_item g → false ≡ list_all is_term gs → binding_in g ≡ None
unbound g gs l f =
    binding-there g ∙ ap (option_and_then terms_there) (sym l) ∙ ap (λ b. if b then Some (map as_term gs) else None) (sym f)

pub bound : (g : GeneralTree) (gs : List GeneralTree) → Some gs ≡ list_of_item g → true ≡ list_all is_term gs → binding_in g ≡ Some (map as_term gs)
bound g gs l f =
    binding-there g ∙ ap (option_and_then terms_there) (sym l) ∙ ap (λ b. if b then Some (map as_term gs) else None) (sym f)

pub unbound-met : (n : LineNumbers) (g : GeneralTree) → binding_in g ≡ None → Meets n n (symbols_of_item g) (names_of_item g)
unbound-met n g e =
    subst (λ o. Meets n n (flat_map term_symbols (unwrap_or o [])) (flat_map term_names (unwrap_or o []))) (sym e) (meets-nothing n)

pub unbound-binding : (n : LineNumbers) (g : GeneralTree) → binding_in g ≡ None → IsBinding n g None
unbound-binding n g e m h = ap (option_map (map (term_by (numbering_of m)))) (sym e)

flat-mapped : {X Y A : Type 0} (f : Y → List A) (h : X → Y) (xs : List X) → flat_map (λ x. f (h x)) xs ≡ flat_map f (map h xs)
flat-mapped f h [] = refl
flat-mapped f h (x ∷ xs) = ap (λ ys. f (h x) ++ ys) (flat-mapped f h xs)

pub bound-met :
    (n m : LineNumbers) (g : GeneralTree) (gs : List GeneralTree)
    → binding_in g ≡ Some (map as_term gs) → Meets n m (flat_map symbols_of gs) (flat_map names_of gs) → Meets n m (symbols_of_item g) (names_of_item g)
bound-met n m g gs e a =
    subst (λ o. Meets n m (flat_map term_symbols (unwrap_or o [])) (flat_map term_names (unwrap_or o []))) (sym e)
    (subst (λ ss. Meets n m ss (flat_map term_names (map as_term gs))) (flat-mapped term_symbols as_term gs)
    (subst (λ xs. Meets n m (flat_map symbols_of gs) xs) (flat-mapped term_names as_term gs) a))

map-twice : {X Y Z : Type 0} (f : Y → Z) (g : X → Y) (xs : List X) → map (λ x. f (g x)) xs ≡ map f (map g xs)
map-twice f g [] = refl
map-twice f g (x ∷ xs) = ap (λ ys. f (g x) ∷ ys) (map-twice f g xs)

pub bound-binding :
    (n : LineNumbers) (g : GeneralTree) (gs : List GeneralTree) (us : List Tree)
    → binding_in g ≡ Some (map as_term gs) → AreGeneralTerms n gs us → IsBinding n g (Some us)
bound-binding n g gs us e a m h =
    ap (λ ts. Some ts) (a m h ∙ map-twice (term_by (numbering_of m)) as_term gs)
    ∙ ap (option_map (map (term_by (numbering_of m)))) (sym e)

-- ---- a walk over general terms

pub record GeneralWalk (first now : LineNumbers) (ts : List GeneralTerm) (i : ℕ) (made : List Tree) : Type 0 where
  pub walk : Walks symbols_of names_of by_numbers first now (map general_of ts) (map general_of (drop i ts)) made
  pub terms : list_all is_term (map general_of (drop i ts)) ≡ true

pub generals-begin :
    (n : LineNumbers) (ts : List GeneralTerm) (made : List Tree)
    → list_all is_term (map general_of ts) ≡ true → made ≡ [] → GeneralWalk n n ts 0 made
generals-begin n ts made a e = record { walk = walks-begin symbols_of names_of by_numbers n _ made e; terms = a }

generals-then :
    (ts : List GeneralTerm) (i : ℕ) (t : GeneralTerm)
    → i < length ts → t ≡ get_or ts i t → list_all is_term (map general_of (drop i ts)) ≡ true
    → (is_term (general_of t) ≡ true) × (list_all is_term (map general_of (drop (i + 1) ts)) ≡ true)
generals-then ts i t h e a = and_parts _ _ (ap (λ us. list_all is_term (map general_of us)) (sym (drop-item ts i t h e)) ∙ a)

pub next-general :
    (first now : LineNumbers) (ts : List GeneralTerm) (i : ℕ) (t : GeneralTerm) (made : List Tree)
    → i < length ts → t ≡ get_or ts i t → GeneralWalk first now ts i made → is_term (general_of t) ≡ true
next-general first now ts i t made h e walk = (generals-then ts i t h e walk.terms).0

pub generals-go :
    (first now next : LineNumbers) (ts : List GeneralTerm) (i : ℕ) (t : GeneralTerm) (made new : List Tree) (u : Tree)
    → i < length ts → t ≡ get_or ts i t → Meets now next (symbols_of (general_of t)) (names_of (general_of t))
    → IsGeneralTerm next (general_of t) u → new ≡ made ++ u ∷ [] → GeneralWalk first now ts i made → GeneralWalk first next ts (i + 1) new
generals-go first now next ts i t made new u h e met value n walk =
    record {
      walk = walks-go _ _ _ _ _ _ _ _ _ _ _ _ _ (ap (map general_of) (drop-item ts i t h e)) met value n walk.walk;
      terms = (generals-then ts i t h e walk.terms).1;
    }

pub generals-met :
    (first now : LineNumbers) (ts : List GeneralTerm) (i : ℕ) (made : List Tree)
    → length ts ≤ i → GeneralWalk first now ts i made → Meets first now (flat_map symbols_of (map general_of ts)) (flat_map names_of (map general_of ts))
generals-met first now ts i made h walk = walks-met _ _ _ _ _ _ _ _ (ap (map general_of) (drop-all ts i h)) walk.walk

pub generals-made :
    (first now : LineNumbers) (ts : List GeneralTerm) (i : ℕ) (made : List Tree)
    → length ts ≤ i → GeneralWalk first now ts i made → AreGeneralTerms now (map general_of ts) made
generals-made first now ts i made h walk = walks-made _ _ _ _ _ _ _ _ (ap (map general_of) (drop-all ts i h)) walk.walk

-- ---- a walk over items

abbrev pub binds_left : List GeneralTerm → ℕ → List GeneralTree
binds_left ts i = items_with (codes "bind" ∷ []) (map general_of (drop i ts))

abbrev pub BindWalk : LineNumbers → LineNumbers → List GeneralTerm → ℕ → List (Option (List Tree)) → Type 0
BindWalk first now ts i made = Walks symbols_of_item names_of_item binding_by first now (binds_left ts 0) (binds_left ts i) made

or-false : (b : Bool) → b ≡ (b || false)
or-false true = refl
or-false false = refl

pub binds-then :
    (ts : List GeneralTerm) (i : ℕ) (t : GeneralTerm) (b : Bool)
    → i < length ts → t ≡ get_or ts i t → b ≡ has_word (codes "bind") (general_of t)
    → binds_left ts i ≡ cond b (general_of t ∷ binds_left ts (i + 1)) (binds_left ts (i + 1))
binds-then ts i t b h e o =
    ap (λ us. items_with (codes "bind" ∷ []) (map general_of us)) (drop-item ts i t h e)
    ∙ ap (λ x. cond x (general_of t ∷ binds_left ts (i + 1)) (binds_left ts (i + 1)))
    (sym (or-false (has_word (codes "bind") (general_of t))) ∙ sym o)

flat-twice :
    {X Y A : Type 0} (f : Y → List A) (o : X → Option (List Y)) (xs : List X)
    → flat_map (λ x. flat_map f (unwrap_or (o x) [])) xs ≡ flat_map f (flat_map (λ y. unwrap_or y []) (map o xs))
flat-twice f o [] = refl
flat-twice f o (x ∷ xs) =
    ap (λ ys. flat_map f (unwrap_or (o x) []) ++ ys) (flat-twice f o xs)
    ∙ sym (flat_map-append f (unwrap_or (o x) []) (flat_map (λ y. unwrap_or y []) (map o xs)))

pub binds-met :
    (first now : LineNumbers) (ts : List GeneralTerm) (i : ℕ) (made : List (Option (List Tree)))
    → length ts ≤ i → BindWalk first now ts i made → Meets first now (symbols_bound (map general_of ts)) (names_bound (map general_of ts))
binds-met first now ts i made h walk =
    subst (λ ss. Meets first now ss (names_bound (map general_of ts))) (flat-twice term_symbols binding_in (binds_left ts 0))
    (subst (λ xs. Meets first now (flat_map symbols_of_item (binds_left ts 0)) xs) (flat-twice term_names binding_in (binds_left ts 0))
    (walks-met _ _ _ _ _ _ _ _ (ap (λ us. items_with (codes "bind" ∷ []) (map general_of us)) (drop-all ts i h)) walk))

pub binds-made :
    (first now : LineNumbers) (ts : List GeneralTerm) (i : ℕ) (made : List (Option (List Tree)))
    → length ts ≤ i → BindWalk first now ts i made → AreBindings now (map general_of ts) made
binds-made first now ts i made h walk m g =
    walks-made _ _ _ _ _ _ _ _ (ap (λ us. items_with (codes "bind" ∷ []) (map general_of us)) (drop-all ts i h)) walk m g
    ∙ map-twice (option_map (map (term_by (numbering_of m)))) binding_in (binds_left ts 0)
