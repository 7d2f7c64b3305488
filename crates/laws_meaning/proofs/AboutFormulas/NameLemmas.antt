-- The names of variables: what is in force for them, and that the truth of a formula depends on its free variables alone.
use Rattle.std.proofs.Common.{◌≡◌, ℕ, ◌==◌, Bool, true, false, not, ◌&&◌, ◌||◌, List, [], ◌∷◌, if◌then◌else◌, refl, ap, ap₂, sym, ◌∙◌}
use Rattle.std.specs.Prelude.{bytes_eq}
use Rattle.std.specs.List.{AllByRecursion, list_any}
use Rattle.std.proofs.lemmas.Bool.{true≢false, false_from_ne_true}
use Rattle.std.proofs.lemmas.Slice.Eq.{bytes_eq-Decides}
use Rattle.tptp_tree.specs.Term.{TermTree, variable, application, TermTrees, no_terms, term_then}
use Rattle.tptp_tree.specs.Formula.{Quantifier, for_all, exists_some, FormulaTree, truth, falsity, predicate, equation, negation, conjunction, disjunction, connected, quantified, FormulaTrees, no_formulas, formula_then}
use Rattle.fol_base.specs.Canonical.{numbers_from}
use Rattle.fol_base.specs.Interpretation.{Interpretation, symbol_value, sides_true}
use Rattle.signature.specs.declared.symbol.Symbol.{Symbol}
use Rattle.signature.specs.Symbol.{predicate_symbol, function_symbol, number_of}
use Rattle.signature.specs.Occurrences.{terms_count}
use Rattle.signature.specs.Environment.{term_names, terms_names, without_names, free_names, all_free_names}
use Rattle.signature.specs.Truth.{Values, value_in_force, term_value, terms_values, connective_true, values_tested, formula_true, all_formulas_true, some_formula_true}
use Rattle.laws_meaning.proofs.AboutStructures.ListLemmas.{each-parts, all-agree, any-agree}

pub bytes_eq-swapped : (x y : List ℕ) (b : Bool) → bytes_eq x y ≡ b → bytes_eq y x ≡ b
bytes_eq-swapped x y true e = (bytes_eq-Decides y x).1 (sym ((bytes_eq-Decides x y).0 e))
bytes_eq-swapped x y false e =
    false_from_ne_true (bytes_eq y x) (λ h. true≢false (sym ((bytes_eq-Decides x y).1 (sym ((bytes_eq-Decides y x).0 h))) ∙ e))

-- ---- names of a list without others

pub each-without_none : (P : List ℕ → Type 0) (free : List (List ℕ)) → AllByRecursion P (without_names [] free) → AllByRecursion P free
each-without_none P [] h = tt
each-without_none P (x ∷ free) h = (h.0, each-without_none P free h.1)

-- what holds without one name more, and for that name
pub each-without_one :
    (P Q : List ℕ → Type 0) (x : List ℕ) (xs free : List (List ℕ))
    → ((y : List ℕ) → bytes_eq x y ≡ true → Q y) → ((y : List ℕ) → bytes_eq x y ≡ false → P y → Q y)
    → AllByRecursion P (without_names (x ∷ xs) free) → AllByRecursion Q (without_names xs free)
each-without_one P Q x xs [] here there h = tt
each-without_one P Q x xs (y ∷ free) here there h =
    by (bytes_eq y x) (list_any (bytes_eq y) xs) refl (each-without_one P Q x xs free here there) h
  where
    by :
        (b c : Bool) → bytes_eq y x ≡ b → (AllByRecursion P (without_names (x ∷ xs) free) → AllByRecursion Q (without_names xs free))
        → AllByRecursion P (if not (b || c) then y ∷ without_names (x ∷ xs) free else without_names (x ∷ xs) free)
        → AllByRecursion Q (if not c then y ∷ without_names xs free else without_names xs free)
    by true true e rest g = rest g
    by true false e rest g = (here y (bytes_eq-swapped y x true e), rest g)
    by false true e rest g = rest g
    by false false e rest g = (there y (bytes_eq-swapped y x false e) g.0, rest g.1)

-- ---- the free variables decide

-- two lists of values have the same ones for the names
abbrev pub AgreeOn : List (List ℕ) → Values → Values → Type 0
AgreeOn names V W = AllByRecursion (λ x. value_in_force V x ≡ value_in_force W x) names

abbrev pub DependsOn : List (List ℕ) → (Values → Bool) → Type 0
DependsOn names test = (V W : Values) → AgreeOn names V W → test V ≡ test W

module _ (known : List Symbol) (i : Interpretation) where
  mutual
    term-depends : (t : TermTree) (V W : Values) → AgreeOn (term_names t) V W → term_value known i V t ≡ term_value known i W t
    term-depends (variable x) V W h = h.0
    term-depends (application f ts) V W h = ap (symbol_value i (number_of known (function_symbol f (terms_count ts)))) (terms-depend ts V W h)

    terms-depend : (ts : TermTrees) (V W : Values) → AgreeOn (terms_names ts) V W → terms_values known i V ts ≡ terms_values known i W ts
    terms-depend no_terms V W h = refl
    terms-depend (term_then t ts) V W h =
        let parts = each-parts (λ x. value_in_force V x ≡ value_in_force W x) (term_names t) (terms_names ts) h in
        ap₂ ◌∷◌ (term-depends t V W parts.0) (terms-depend ts V W parts.1)

pub agree-bound :
    (x : List ℕ) (a : ℕ) (xs free : List (List ℕ)) (V W : Values)
    → AgreeOn (without_names (x ∷ xs) free) V W → AgreeOn (without_names xs free) ((x, a) ∷ V) ((x, a) ∷ W)
agree-bound x a xs free V W h =
    each-without_one (λ y. value_in_force V y ≡ value_in_force W y) (λ y. value_in_force ((x, a) ∷ V) y ≡ value_in_force ((x, a) ∷ W) y) x xs free
    (λ y e. ap (λ (b : Bool). if b then a else value_in_force V y) e ∙ sym (ap (λ (b : Bool). if b then a else value_in_force W y) e))
    (λ y e k. by y (bytes_eq x y) k) h
  where
    by : (y : List ℕ) (b : Bool) → value_in_force V y ≡ value_in_force W y → (if b then a else value_in_force V y) ≡ (if b then a else value_in_force W y)
    by y true k = refl
    by y false k = k

pub tested-depends :
    (q : Quantifier) (size : ℕ) (xs free : List (List ℕ)) (test : Values → Bool)
    → DependsOn free test → DependsOn (without_names xs free) (values_tested q size xs test)
tested-depends for_all size [] free test d V W h = d V W (each-without_none (λ x. value_in_force V x ≡ value_in_force W x) free h)
tested-depends exists_some size [] free test d V W h = d V W (each-without_none (λ x. value_in_force V x ≡ value_in_force W x) free h)
tested-depends for_all size (x ∷ xs) free test d V W h =
    all-agree (λ v. values_tested for_all size xs test ((x, v) ∷ V)) (λ v. values_tested for_all size xs test ((x, v) ∷ W))
    (λ v. tested-depends for_all size xs free test d ((x, v) ∷ V) ((x, v) ∷ W) (agree-bound x v xs free V W h)) (numbers_from 0 size)
tested-depends exists_some size (x ∷ xs) free test d V W h =
    any-agree (λ v. values_tested exists_some size xs test ((x, v) ∷ V)) (λ v. values_tested exists_some size xs test ((x, v) ∷ W))
    (λ v. tested-depends exists_some size xs free test d ((x, v) ∷ V) ((x, v) ∷ W) (agree-bound x v xs free V W h)) (numbers_from 0 size)

mutual
  pub formula-depends : (known : List Symbol) (i : Interpretation) (f : FormulaTree) → DependsOn (free_names f) (formula_true known i f)
  formula-depends known i truth V W h = refl
  formula-depends known i falsity V W h = refl
  formula-depends known i (predicate p ts) V W h =
      ap (λ vs. symbol_value i (number_of known (predicate_symbol p (terms_count ts))) vs == 1) (terms-depend known i ts V W h)
  formula-depends known i (equation positive s t) V W h =
      let parts = each-parts (λ x. value_in_force V x ≡ value_in_force W x) (term_names s) (term_names t) h in
      ap₂ (sides_true positive) (term-depends known i s V W parts.0) (term-depends known i t V W parts.1)
  formula-depends known i (negation f) V W h = ap not (formula-depends known i f V W h)
  formula-depends known i (conjunction fs) V W h = (formulas-depend known i fs V W h).0
  formula-depends known i (disjunction fs) V W h = (formulas-depend known i fs V W h).1
  formula-depends known i (connected c f g) V W h =
      let parts = each-parts (λ x. value_in_force V x ≡ value_in_force W x) (free_names f) (free_names g) h in
      ap₂ (connective_true c) (formula-depends known i f V W parts.0) (formula-depends known i g V W parts.1)
  formula-depends known i (quantified q xs f) V W h =
      tested-depends q i.size xs (free_names f) (formula_true known i f) (formula-depends known i f) V W h

  formulas-depend :
      (known : List Symbol) (i : Interpretation) (fs : FormulaTrees) (V W : Values) → AgreeOn (all_free_names fs) V W
      → (all_formulas_true known i fs V ≡ all_formulas_true known i fs W) × (some_formula_true known i fs V ≡ some_formula_true known i fs W)
  formulas-depend known i no_formulas V W h = (refl, refl)
  formulas-depend known i (formula_then f fs) V W h =
      let parts = each-parts (λ x. value_in_force V x ≡ value_in_force W x) (free_names f) (all_free_names fs) h in
      let one = formula-depends known i f V W parts.0 in
      let rest = formulas-depend known i fs V W parts.1 in
      (ap₂ ◌&&◌ one rest.0, ap₂ ◌||◌ one rest.1)
