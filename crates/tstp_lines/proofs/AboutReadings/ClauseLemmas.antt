-- Literals and clauses by the numbers of a line.
use Rattle.std.proofs.Common.{◌≡◌, ℕ, ◌+◌, ◌<◌, ◌≤◌, Bool, true, false, List, [], ◌∷◌, ◌++◌, length, map, drop, get_or, cond, refl, ap, sym, ◌∙◌, append-nil}
use mathlib.Core.Bool.{beq}
use Rattle.std.specs.Prelude.{Option, None, Some, is_some, is_none, filter_map, flat_map}
use Rattle.std.specs.List.{list_all, cons_option}
use Rattle.std.proofs.lemmas.Bool.{and_parts}
use Rattle.plain_types.specs.declared.sequence.NameLit.{NameLit}
use Rattle.fol_base.specs.Tree.{Tree, Trees, application, true_tree}
use Rattle.fol_base.specs.Clause.{TreeLiteral}
use Rattle.tptp_tree.specs.Term.{TermTree, terms_of}
use Rattle.tptp_tree.specs.Formula.{FormulaTree, predicate, equation}
use Rattle.tptp_tree.specs.Shape.{term_of, formula_of}
use Rattle.tptp_tree.specs.declared.term.TreeTerm.{TreeTerm}
use Rattle.tptp_tree.specs.declared.formula.Formula.{Formula}
use Rattle.signature.specs.declared.symbol.SymbolKind.TheVariants.{Predicate}
use Rattle.signature.specs.Symbol.{number_of}
use Rattle.signature.specs.Occurrences.{term_symbols, terms_symbols, formula_symbols}
use Rattle.signature.specs.Environment.{term_names, terms_names, free_names}
use Rattle.clausal_form.specs.DerivationClause.{literal_name, is_literal, literal_by}
use Rattle.tstp_lines.specs.declared.numbers.LineNumbers.{LineNumbers}
use Rattle.tstp_lines.specs.Numbers.{symbol_for, Meets, IsTerm, AreTerms, numbering_of}
use Rattle.tstp_lines.specs.LineClause.{IsAtom, IsLiteral, AreLiterals, ordinary}
use Rattle.tstp_lines.proofs.AboutReadings.TableLemmas.{map-appended}
use Rattle.tstp_lines.proofs.AboutReadings.NumberLemmas.{goes-after, applied-tree}
use Rattle.tstp_lines.proofs.AboutReadings.WalkLemmas.{Walks, walks-begin, walks-skip, walks-go, walks-met, walks-made}
use Rattle.list_lemmas.proofs.Places.{drop-item, drop-all}
use Rattle.list_lemmas.proofs.Lists.{push-joined}

abbrev literal-with : Bool → Tree → Tree → TreeLiteral
literal-with p a c = record { positive = p; left = a; right = c }

literal-is : (p q : Bool) (a b c d : Tree) → p ≡ q → a ≡ b → c ≡ d → literal-with p a c ≡ literal-with q b d
literal-is p q a b c d e f g = λ i. record { positive = e i; left = f i; right = g i }

affirmed : (p : Bool) → p ≡ beq true p
affirmed true = refl
affirmed false = refl

pub equation-literal :
    (m k : LineNumbers) (positive : Bool) (s t : TermTree) (u v : Tree)
    → IsTerm m s u → Meets m k (term_symbols t) (term_names t) → IsTerm k t v
    → IsAtom k positive (equation true s t) (record { positive = positive; left = u; right = v })
equation-literal m k positive s t u v first met second l g =
    literal-is positive (beq true positive) u _ v _ (affirmed positive) (first l (goes-after m k l _ _ met g)) (second l g)

pub predicate-literal :
    (n m k : LineNumbers) (positive : Bool) (name : List ℕ) (ts : List TreeTerm) (us : Trees) (number : ℕ) (truth : Tree)
    → Meets n m (symbol_for Predicate name (length ts) ∷ []) [] → number ≡ number_of m.symbols (symbol_for Predicate name (length ts))
    → Meets m k (terms_symbols (terms_of (map term_of ts))) (terms_names (terms_of (map term_of ts)))
    → AreTerms k (terms_of (map term_of ts)) us → truth ≡ true_tree
    → IsAtom k positive (predicate name (terms_of (map term_of ts))) (record { positive = positive; left = application number us; right = truth })
predicate-literal n m k positive name ts us number truth a p b trees e l g =
    literal-is positive positive _ _ truth true_tree refl (applied-tree n m k l Predicate name ts us number a p b trees g) e

-- ---- the names

abbrev pub names_left : List (List ℕ) → List Formula → ℕ → List NameLit
names_left names fs i = filter_map (literal_name names) (map formula_of (drop i fs))

names-then : (names : List (List ℕ)) (fs : List Formula) (i : ℕ) (f : Formula) → i < length fs → f ≡ get_or fs i f → names_left names fs i ≡ cons_option (literal_name names (formula_of f)) (names_left names fs (i + 1))
names-then names fs i f h e = ap (λ gs. filter_map (literal_name names) (map formula_of gs)) (drop-item fs i f h e)

pub name-added :
    (names : List (List ℕ)) (fs : List Formula) (i : ℕ) (f : Formula) (made new all : List NameLit) (n : NameLit)
    → i < length fs → f ≡ get_or fs i f → Some n ≡ literal_name names (formula_of f) → new ≡ made ++ n ∷ []
    → made ++ names_left names fs i ≡ all → new ++ names_left names fs (i + 1) ≡ all
name-added names fs i f made new all n h e o a w =
    ap (λ ns. ns ++ names_left names fs (i + 1)) a
    ∙ push-joined made n (names_left names fs (i + 1))
    ∙ ap (λ x. made ++ cons_option x (names_left names fs (i + 1))) o
    ∙ ap (λ ns. made ++ ns) (sym (names-then names fs i f h e)) ∙ w

pub no-name-added :
    (names : List (List ℕ)) (fs : List Formula) (i : ℕ) (f : Formula) (made all : List NameLit)
    → i < length fs → f ≡ get_or fs i f → None ≡ literal_name names (formula_of f)
    → made ++ names_left names fs i ≡ all → made ++ names_left names fs (i + 1) ≡ all
no-name-added names fs i f made all h e o w =
    ap (λ x. made ++ cons_option x (names_left names fs (i + 1))) o ∙ ap (λ ns. made ++ ns) (sym (names-then names fs i f h e)) ∙ w

pub names-done : (names : List (List ℕ)) (fs : List Formula) (i : ℕ) (made all : List NameLit) → length fs ≤ i → made ++ names_left names fs i ≡ all → made ≡ all
names-done names fs i made all h w =
    sym (append-nil made) ∙ ap (λ gs. made ++ filter_map (literal_name names) (map formula_of gs)) (sym (drop-all fs i h)) ∙ w

-- ---- the ordinary literals

abbrev pub ordinary_left : List (List ℕ) → List Formula → ℕ → List FormulaTree
ordinary_left names fs i = ordinary names (map formula_of (drop i fs))

abbrev pub by_numbers : LineNumbers → FormulaTree → TreeLiteral
by_numbers m = literal_by (numbering_of m)

-- the literals before a place were walked over, and those from there on are literals too
pub record LiteralWalk (names : List (List ℕ)) (first now : LineNumbers) (fs : List Formula) (i : ℕ) (made : List TreeLiteral) : Type 0 where
  pub walk : Walks formula_symbols free_names by_numbers first now (ordinary names (map formula_of fs)) (ordinary_left names fs i) made
  pub literals : list_all is_literal (map formula_of (drop i fs)) ≡ true

pub literals-begin :
    (names : List (List ℕ)) (n : LineNumbers) (fs : List Formula) (made : List TreeLiteral)
    → list_all is_literal (map formula_of fs) ≡ true → made ≡ [] → LiteralWalk names n n fs 0 made
literals-begin names n fs made a e = record { walk = walks-begin formula_symbols free_names by_numbers n _ made e; literals = a }

ordinary-then :
    (names : List (List ℕ)) (fs : List Formula) (i : ℕ) (f : Formula) (b : Bool)
    → i < length fs → f ≡ get_or fs i f → b ≡ is_none (literal_name names (formula_of f))
    → ordinary_left names fs i ≡ cond b (formula_of f ∷ ordinary_left names fs (i + 1)) (ordinary_left names fs (i + 1))
ordinary-then names fs i f b h e o =
    ap (λ gs. ordinary names (map formula_of gs)) (drop-item fs i f h e)
    ∙ ap (λ x. cond x (formula_of f ∷ ordinary_left names fs (i + 1)) (ordinary_left names fs (i + 1))) (sym o)

all-then :
    (fs : List Formula) (i : ℕ) (f : Formula)
    → i < length fs → f ≡ get_or fs i f → list_all is_literal (map formula_of (drop i fs)) ≡ true
    → (is_literal (formula_of f) ≡ true) × (list_all is_literal (map formula_of (drop (i + 1) fs)) ≡ true)
all-then fs i f h e a = and_parts _ _ (ap (λ gs. list_all is_literal (map formula_of gs)) (sym (drop-item fs i f h e)) ∙ a)

pub next-literal :
    (names : List (List ℕ)) (first now : LineNumbers) (fs : List Formula) (i : ℕ) (f : Formula) (made : List TreeLiteral)
    → i < length fs → f ≡ get_or fs i f → LiteralWalk names first now fs i made → is_literal (formula_of f) ≡ true
next-literal names first now fs i f made h e walk = (all-then fs i f h e walk.literals).0

pub literals-skip :
    (names : List (List ℕ)) (first now : LineNumbers) (fs : List Formula) (i : ℕ) (f : Formula) (made : List TreeLiteral)
    → i < length fs → f ≡ get_or fs i f → false ≡ is_none (literal_name names (formula_of f))
    → LiteralWalk names first now fs i made → LiteralWalk names first now fs (i + 1) made
literals-skip names first now fs i f made h e o walk =
    record {
      walk = walks-skip _ _ _ _ _ _ _ _ _ (ordinary-then names fs i f false h e o) walk.walk;
      literals = (all-then fs i f h e walk.literals).1;
    }

pub is-ordinary : (o p : Option NameLit) → o ≡ p → false ≡ is_some o → true ≡ is_none p
is-ordinary None p e h = ap is_none e
is-ordinary (Some n) p e h = cc

pub mapped-last : {X Y : Type 0} (f : X → Y) (xs new : List X) (x : X) → new ≡ xs ++ x ∷ [] → map f new ≡ map f xs ++ f x ∷ []
mapped-last f xs new x e = ap (map f) e ∙ map-appended f xs (x ∷ [])

pub literals-go :
    (names : List (List ℕ)) (first now next : LineNumbers) (fs : List Formula) (i : ℕ) (f : Formula) (made new : List TreeLiteral) (l : TreeLiteral)
    → i < length fs → f ≡ get_or fs i f → true ≡ is_none (literal_name names (formula_of f))
    → Meets now next (formula_symbols (formula_of f)) (free_names (formula_of f)) → IsLiteral next (formula_of f) l → new ≡ made ++ l ∷ []
    → LiteralWalk names first now fs i made → LiteralWalk names first next fs (i + 1) new
literals-go names first now next fs i f made new l h e o met value n walk =
    record {
      walk = walks-go _ _ _ _ _ _ _ _ _ _ _ _ _ (ordinary-then names fs i f true h e o) met value n walk.walk;
      literals = (all-then fs i f h e walk.literals).1;
    }

pub literals-met :
    (names : List (List ℕ)) (first now : LineNumbers) (fs : List Formula) (i : ℕ) (made : List TreeLiteral)
    → length fs ≤ i → LiteralWalk names first now fs i made
    → Meets first now (flat_map formula_symbols (ordinary names (map formula_of fs))) (flat_map free_names (ordinary names (map formula_of fs)))
literals-met names first now fs i made h walk =
    walks-met _ _ _ _ _ _ _ _ (ap (λ gs. ordinary names (map formula_of gs)) (drop-all fs i h)) walk.walk

pub literals-made :
    (names : List (List ℕ)) (first now : LineNumbers) (fs : List Formula) (i : ℕ) (made : List TreeLiteral)
    → length fs ≤ i → LiteralWalk names first now fs i made → AreLiterals now (ordinary names (map formula_of fs)) made
literals-made names first now fs i made h walk =
    walks-made _ _ _ _ _ _ _ _ (ap (λ gs. ordinary names (map formula_of gs)) (drop-all fs i h)) walk.walk
