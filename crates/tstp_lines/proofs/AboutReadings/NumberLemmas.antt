-- Numbers that go on from others, and what is by them.
use Rattle.std.proofs.Common.{◌≡◌, ℕ, ◌+◌, ◌<◌, ◌≤◌, Bool, true, false, not, ◌||◌, List, [], ◌∷◌, ◌++◌, length, map, drop, fold, get_or, cond, refl, ap, sym, ◌∙◌, append-nil, subst, arith}
use Rattle.std.specs.Prelude.{bytes_eq, if◌then◌else◌}
use Rattle.std.specs.List.{list_any}
use Rattle.std.proofs.lemmas.Cmp.{nat_list_eq_equiv}
use Rattle.fol_base.specs.Tree.{Tree, variable, application, Trees, no_trees, tree_then, trees_of, list_of}
use Rattle.tptp_tree.specs.Term.{TermTree, variable as named_variable, application as named_application, TermTrees, terms_of}
use Rattle.tptp_tree.specs.Shape.{term_of}
use Rattle.tptp_tree.specs.declared.term.TreeTerm.{TreeTerm}
use Rattle.tptp_tree.specs.declared.term.TreeTerm.TheVariants.{Var, App}
use Rattle.signature.specs.declared.symbol.Symbol.{Symbol}
use Rattle.signature.specs.declared.symbol.SymbolKind.{SymbolKind}
use Rattle.signature.specs.declared.symbol.SymbolKind.TheVariants.{Function}
use Rattle.signature.specs.Symbol.{same_symbol, has_symbol, with_symbol, number_of}
use Rattle.signature.specs.SymbolLaws.{same_symbols}
use Rattle.signature.specs.Occurrences.{terms_count, term_symbols, terms_symbols}
use Rattle.signature.specs.Environment.{term_names, terms_names, term_in_force, terms_under}
use Rattle.signature.proofs.OccurrenceLemmas.{count_length}
use Rattle.clausal_form.specs.DerivationClause.{numbered_from}
use Rattle.tstp_lines.specs.declared.numbers.LineNumbers.{LineNumbers}
use Rattle.tstp_lines.specs.Tables.{with_name, place_of_name}
use Rattle.tstp_lines.specs.Numbers.{symbol_for, Meets, GoesOn, IsTerm, AreTerms}
use Rattle.tstp_lines.proofs.AboutReadings.TableLemmas.{place-stays, any-stays, any-met}
use Rattle.list_lemmas.proofs.Places.{drop-item, drop-all}
use Rattle.list_lemmas.proofs.Lists.{push-joined}
use Rattle.fol_base.proofs.AboutTerms.TreeLemmas.{trees_of-list_of}

pub fold-appended : {X Y : Type 0} (f : Y → X → Y) (y : Y) (xs zs : List X) → fold f y (xs ++ zs) ≡ fold f (fold f y xs) zs
fold-appended f y [] zs = refl
fold-appended f y (x ∷ xs) zs = fold-appended f (f y x) xs zs

-- ---- numbers that go on

pub meets-nothing : (n : LineNumbers) → Meets n n [] []
meets-nothing n = record { symbols = refl; variables = refl }

pub meets-then :
    (n m k : LineNumbers) (ss us : List Symbol) (xs ys : List (List ℕ)) → Meets n m ss xs → Meets m k us ys → Meets n k (ss ++ us) (xs ++ ys)
meets-then n m k ss us xs ys a b =
    record {
      symbols =
          b.symbols ∙ ap (λ known. fold with_symbol known us) a.symbols ∙ sym (fold-appended with_symbol n.symbols ss us);
      variables =
          b.variables ∙ ap (λ known. fold with_name known ys) a.variables ∙ sym (fold-appended with_name n.variables xs ys);
    }

pub goes-on : (n : LineNumbers) → GoesOn n n
goes-on n = record { symbols_met = []; names_met = []; met = meets-nothing n }

pub goes-after : (n m k : LineNumbers) (ss : List Symbol) (xs : List (List ℕ)) → Meets n m ss xs → GoesOn m k → GoesOn n k
goes-after n m k ss xs a b =
    record { symbols_met = ss ++ b.symbols_met; names_met = xs ++ b.names_met; met = meets-then n m k ss b.symbols_met xs b.names_met a b.met }

-- a symbol that was met keeps its number
pub symbol-stays :
    (n m k : LineNumbers) (s : Symbol) (number : ℕ)
    → Meets n m (s ∷ []) [] → number ≡ number_of m.symbols s → GoesOn m k → number ≡ number_of k.symbols s
symbol-stays n m k s number a e g =
    e ∙ sym (place-stays same_symbol (same_symbol s) m.symbols g.symbols_met there) ∙ ap (λ known. number_of known s) (sym g.met.symbols)
  where
    there : has_symbol s m.symbols ≡ true
    there = ap (has_symbol s) a.symbols ∙ any-met same_symbol n.symbols s (same_symbols.refl s)

-- ---- variables

-- the variable of a name that is there
in-force :
    (x : List ℕ) (names : List (List ℕ)) (n : ℕ)
    → list_any (bytes_eq x) names ≡ true → term_in_force (numbered_from n names) x ≡ variable (n + place_of_name names x)
in-force x [] n h = cc
in-force x (y ∷ names) n h =
    ap (λ b. if b then variable n else term_in_force (numbered_from (n + 1) names) x) (nat_list_eq_equiv.symm y x)
    ∙ by (bytes_eq x y) h (in-force x names (n + 1))
  where
    by :
        (b : Bool) → (b || list_any (bytes_eq x) names) ≡ true
        → (list_any (bytes_eq x) names ≡ true → term_in_force (numbered_from (n + 1) names) x ≡ variable (n + 1 + place_of_name names x))
        → (if b then variable n else term_in_force (numbered_from (n + 1) names) x) ≡ variable (n + cond (not b) (1 + place_of_name names x) 0)
    by true g r = ap variable (omega arith)
    by false g r = r g ∙ ap variable (omega arith)

pub variable-tree :
    (known names : List (List ℕ)) (x : List ℕ) (number : ℕ) (n : LineNumbers)
    → names ≡ with_name known x → number ≡ place_of_name names x → n.variables ≡ names → IsTerm n (named_variable x) (variable number)
variable-tree known names x number n e p v m g =
    ap variable
    (p ∙ sym (place-stays bytes_eq (bytes_eq x) names g.names_met there) ∙ ap (λ ys. place_of_name ys x) (sym later))
    ∙ ap variable (from-zero (place_of_name m.variables x))
    ∙ sym (in-force x m.variables 0 (ap (list_any (bytes_eq x)) later ∙ any-stays bytes_eq (bytes_eq x) names g.names_met there))
  where
    from-zero : (i : ℕ) → i ≡ 0 + i
    from-zero i = omega arith

    later : m.variables ≡ fold with_name names g.names_met
    later = g.met.variables ∙ ap (λ ys. fold with_name ys g.names_met) v

    there : list_any (bytes_eq x) names ≡ true
    there = ap (list_any (bytes_eq x)) e ∙ any-met bytes_eq known x (nat_list_eq_equiv.refl x)

-- ---- applications

-- a symbol of either kind, applied to terms
pub head-tree :
    (n m k l : LineNumbers) (kind : SymbolKind) (f : List ℕ) (ts : TermTrees) (us : Trees) (number : ℕ)
    → Meets n m (symbol_for kind f (terms_count ts) ∷ []) [] → number ≡ number_of m.symbols (symbol_for kind f (terms_count ts))
    → Meets m k (terms_symbols ts) (terms_names ts) → AreTerms k ts us → GoesOn k l
    → application number us
    ≡ application (number_of l.symbols (symbol_for kind f (terms_count ts))) (terms_under l.symbols (numbered_from 0 l.variables) ts)
head-tree n m k l kind f ts us number a e b t g =
    ap (λ i. application i us) (symbol-stays n m l (symbol_for kind f (terms_count ts)) number a e (goes-after m k l _ _ b g))
    ∙ ap (application (number_of l.symbols (symbol_for kind f (terms_count ts)))) (t l g)

same-application :
    (t : TreeTerm) (f name : List ℕ) (arguments : List TermTree) (ts : List TreeTerm)
    → t ≡ App f arguments → name ≡ f → map term_of ts ≡ arguments → named_application name (terms_of (map term_of ts)) ≡ term_of t
same-application t f name arguments ts e n a =
    ap (λ x. named_application x (terms_of (map term_of ts))) n ∙ ap (λ us. named_application f (terms_of us)) a ∙ sym (ap term_of e)

counted :
    (n m : LineNumbers) (kind : SymbolKind) (name : List ℕ) (ts : List TreeTerm)
    → Meets n m (symbol_for kind name (length ts) ∷ []) [] → Meets n m (symbol_for kind name (terms_count (terms_of (map term_of ts))) ∷ []) []
counted n m kind name ts a = subst (λ i. Meets n m (symbol_for kind name i ∷ []) []) (sym (count_length ts)) a

pub head-met :
    (n m k : LineNumbers) (kind : SymbolKind) (name : List ℕ) (ts : List TreeTerm)
    → Meets n m (symbol_for kind name (length ts) ∷ []) []
    → Meets m k (terms_symbols (terms_of (map term_of ts))) (terms_names (terms_of (map term_of ts)))
    → Meets n k (symbol_for kind name (terms_count (terms_of (map term_of ts))) ∷ terms_symbols (terms_of (map term_of ts)))
    (terms_names (terms_of (map term_of ts)))
head-met n m k kind name ts a b = meets-then n m k _ _ [] _ (counted n m kind name ts a) b

pub term-met :
    (n m k : LineNumbers) (t : TreeTerm) (f name : List ℕ) (arguments : List TermTree) (ts : List TreeTerm)
    → t ≡ App f arguments → name ≡ f → map term_of ts ≡ arguments → Meets n m (symbol_for Function name (length ts) ∷ []) []
    → Meets m k (terms_symbols (terms_of (map term_of ts))) (terms_names (terms_of (map term_of ts)))
    → Meets n k (term_symbols (term_of t)) (term_names (term_of t))
term-met n m k t f name arguments ts e x a head rest =
    subst (λ u. Meets n k (term_symbols u) (term_names u)) (same-application t f name arguments ts e x a) (head-met n m k Function name ts head rest)

pub applied-tree :
    (n m k l : LineNumbers) (kind : SymbolKind) (name : List ℕ) (ts : List TreeTerm) (us : Trees) (number : ℕ)
    → Meets n m (symbol_for kind name (length ts) ∷ []) [] → number ≡ number_of m.symbols (symbol_for kind name (length ts))
    → Meets m k (terms_symbols (terms_of (map term_of ts))) (terms_names (terms_of (map term_of ts)))
    → AreTerms k (terms_of (map term_of ts)) us → GoesOn k l
    → application number us
    ≡ application (number_of l.symbols (symbol_for kind name (terms_count (terms_of (map term_of ts)))))
    (terms_under l.symbols (numbered_from 0 l.variables) (terms_of (map term_of ts)))
applied-tree n m k l kind name ts us number a p b trees g =
    head-tree n m k l kind name (terms_of (map term_of ts)) us number (counted n m kind name ts a)
    (p ∙ ap (λ i. number_of m.symbols (symbol_for kind name i)) (sym (count_length ts))) b trees g

pub term-tree :
    (n m k : LineNumbers) (t : TreeTerm) (f name : List ℕ) (arguments : List TermTree) (ts : List TreeTerm) (us : Trees) (number : ℕ)
    → t ≡ App f arguments → name ≡ f → map term_of ts ≡ arguments → Meets n m (symbol_for Function name (length ts) ∷ []) []
    → number ≡ number_of m.symbols (symbol_for Function name (length ts))
    → Meets m k (terms_symbols (terms_of (map term_of ts))) (terms_names (terms_of (map term_of ts)))
    → AreTerms k (terms_of (map term_of ts)) us → IsTerm k (term_of t) (application number us)
term-tree n m k t f name arguments ts us number e x a head p rest trees =
    subst (λ u. IsTerm k u (application number us)) (same-application t f name arguments ts e x a)
    (λ l g. applied-tree n m k l Function name ts us number head p rest trees g)

pub variable-term :
    (known names : List (List ℕ)) (t : TreeTerm) (x name : List ℕ) (number : ℕ) (n : LineNumbers)
    → t ≡ Var x → name ≡ x → names ≡ with_name known name → number ≡ place_of_name names name → n.variables ≡ names
    → IsTerm n (term_of t) (variable number)
variable-term known names t x name number n e same met p v =
    subst (λ u. IsTerm n u (variable number)) (ap named_variable same ∙ sym (ap term_of e)) (variable-tree known names name number n met p v)

-- ---- a walk over terms

abbrev pub terms_left : LineNumbers → List TreeTerm → ℕ → List Tree
terms_left n ts i = list_of (terms_under n.symbols (numbered_from 0 n.variables) (terms_of (map term_of (drop i ts))))

-- the first terms were walked over, from the first numbers to those that there are now, and their trees were made
pub record Walk (first now : LineNumbers) (ts : List TreeTerm) (i : ℕ) (made : List Tree) : Type 0 where
  pub symbols :
      fold with_symbol now.symbols (terms_symbols (terms_of (map term_of (drop i ts))))
      ≡ fold with_symbol first.symbols (terms_symbols (terms_of (map term_of ts)))
  pub variables :
      fold with_name now.variables (terms_names (terms_of (map term_of (drop i ts))))
      ≡ fold with_name first.variables (terms_names (terms_of (map term_of ts)))
  pub trees :
      (m : LineNumbers) → GoesOn now m
      → trees_of (made ++ terms_left m ts i) ≡ terms_under m.symbols (numbered_from 0 m.variables) (terms_of (map term_of ts))

pub walk-begins : (n : LineNumbers) (ts : List TreeTerm) (made : List Tree) → made ≡ [] → Walk n n ts 0 made
walk-begins n ts made e =
    record { symbols = refl; variables = refl; trees = λ m g. ap (λ us. trees_of (us ++ terms_left m ts 0)) e ∙ trees_of-list_of _ }

pub walk-goes :
    (first now next : LineNumbers) (ts : List TreeTerm) (i : ℕ) (made new : List Tree) (t : TreeTerm) (u : Tree)
    → i < length ts → t ≡ get_or ts i t → Meets now next (term_symbols (term_of t)) (term_names (term_of t)) → IsTerm next (term_of t) u
    → new ≡ made ++ u ∷ [] → Walk first now ts i made → Walk first next ts (i + 1) new
walk-goes first now next ts i made new t u h e met tree n walk =
    record {
      symbols =
          ap (λ known. fold with_symbol known (terms_symbols rest)) met.symbols
          ∙ sym (fold-appended with_symbol now.symbols (term_symbols (term_of t)) (terms_symbols rest))
          ∙ ap (λ us. fold with_symbol now.symbols (terms_symbols (terms_of (map term_of us)))) (sym (drop-item ts i t h e)) ∙ walk.symbols;
      variables =
          ap (λ known. fold with_name known (terms_names rest)) met.variables
          ∙ sym (fold-appended with_name now.variables (term_names (term_of t)) (terms_names rest))
          ∙ ap (λ us. fold with_name now.variables (terms_names (terms_of (map term_of us)))) (sym (drop-item ts i t h e)) ∙ walk.variables;
      trees = λ m g.
          ap (λ us. trees_of (us ++ terms_left m ts (i + 1))) n
          ∙ ap trees_of (push-joined made u (terms_left m ts (i + 1)))
          ∙ ap (λ x. trees_of (made ++ x ∷ terms_left m ts (i + 1))) (tree m g)
          ∙ ap (λ us. trees_of (made ++ list_of (terms_under m.symbols (numbered_from 0 m.variables) (terms_of (map term_of us)))))
          (sym (drop-item ts i t h e))
          ∙ walk.trees m (goes-after now next m _ _ met g);
    }
  where
    rest : TermTrees
    rest = terms_of (map term_of (drop (i + 1) ts))

pub walk-met :
    (first now : LineNumbers) (ts : List TreeTerm) (i : ℕ) (made : List Tree)
    → length ts ≤ i → Walk first now ts i made → Meets first now (terms_symbols (terms_of (map term_of ts))) (terms_names (terms_of (map term_of ts)))
walk-met first now ts i made h walk =
    record {
      symbols =
          ap (λ us. fold with_symbol now.symbols (terms_symbols (terms_of (map term_of us)))) (sym (drop-all ts i h)) ∙ walk.symbols;
      variables =
          ap (λ us. fold with_name now.variables (terms_names (terms_of (map term_of us)))) (sym (drop-all ts i h)) ∙ walk.variables;
    }

pub walk-trees :
    (first now : LineNumbers) (ts : List TreeTerm) (i : ℕ) (made : List Tree)
    → length ts ≤ i → Walk first now ts i made → AreTerms now (terms_of (map term_of ts)) (trees_of made)
walk-trees first now ts i made h walk m g =
    ap trees_of
    (sym (append-nil made)
    ∙ ap (λ us. made ++ list_of (terms_under m.symbols (numbered_from 0 m.variables) (terms_of (map term_of us)))) (sym (drop-all ts i h)))
    ∙ walk.trees m g
