-- A normal form has the free variables of the formula, though not as often.
use Rattle.std.proofs.Common.{◌≡◌, ℕ, ◌==◌, Bool, true, false, not, ◌&&◌, ◌||◌, List, [], ◌∷◌, ◌++◌, ◌+◌, length, refl, ap, sym, ◌∙◌}
use Rattle.std.specs.Prelude.{filter, bytes_eq, if◌then◌else◌}
use Rattle.std.specs.List.{list_any}
use Rattle.tptp_tree.specs.Formula.{implies, implied, equivalent, different, nor, nand, FormulaTree, truth, falsity, predicate, equation, negation, conjunction, disjunction, connected, quantified, FormulaTrees, no_formulas, formula_then}
use Rattle.fol_base.specs.Tree.{tree_variables}
use Rattle.fol_base.specs.Canonical.{numbers_from}
use Rattle.signature.specs.Environment.{Environment, free_names, all_free_names, without_names, term_in_force}
use Rattle.signature.specs.Clausal.{SymbolNumbers, Made, skolem_arguments, with_skolem_terms, applied}
use Rattle.formula_nnf.specs.NormalForm.{list_form, pair_form, normal_form, normal_forms}
use Rattle.list_lemmas.proofs.Tests.{any-joined, any-filter, any-flat_map}
use Rattle.list_lemmas.proofs.Bools.{or-false}

filter-same : {X : Type 0} (p q : X → Bool) (xs : List X) → ((x : X) → p x ≡ q x) → filter p xs ≡ filter q xs
filter-same p q [] h = refl
filter-same p q (x ∷ xs) h =
    ap (λ t. if t then x ∷ filter p xs else filter p xs) (h x)
    ∙ ap (λ ys. if q x then x ∷ ys else ys) (filter-same p q xs h)

-- every test finds the same in both lists
abbrev pub Same : List (List ℕ) → List (List ℕ) → Type 0
Same xs ys = (p : List ℕ → Bool) → list_any p xs ≡ list_any p ys

without-same : (bound xs ys : List (List ℕ)) → Same xs ys → Same (without_names bound xs) (without_names bound ys)
without-same bound xs ys h p =
    any-filter p (λ x. not (list_any (bytes_eq x) bound)) xs
    ∙ h (λ x. not (list_any (bytes_eq x) bound) && p x)
    ∙ sym (any-filter p (λ x. not (list_any (bytes_eq x) bound)) ys)

pub arguments-same : (xs ys : List (List ℕ)) (env : Environment) (m : Made) → Same xs ys → skolem_arguments xs env m ≡ skolem_arguments ys env m
arguments-same xs ys env m h =
    filter-same _ _ (numbers_from 0 m.variables) (λ v.
    any-flat_map (λ w. v == w) (λ x. tree_variables (term_in_force env x)) xs
    ∙ h (λ x. list_any (λ w. v == w) (tree_variables (term_in_force env x)))
    ∙ sym (any-flat_map (λ w. v == w) (λ x. tree_variables (term_in_force env x)) ys))

pub skolem-same :
    (n : SymbolNumbers) (free other xs : List (List ℕ)) (env : Environment) (m : Made)
    → Same free other → with_skolem_terms n free xs env m ≡ with_skolem_terms n other xs env m
skolem-same n free other [] env m h = refl
skolem-same n free other (x ∷ xs) env m h =
    ap (λ arguments. with_skolem_terms n free xs ((x, applied (n.first_skolem + length m.skolem_arities) arguments) ∷ env)
    (record {
      variables = m.variables;
      skolem_arities = m.skolem_arities ++ length arguments ∷ [];
      naming_arities = m.naming_arities;
      defining = m.defining;
    }))
    (arguments-same (without_names (x ∷ xs) free) (without_names (x ∷ xs) other) env m (without-same (x ∷ xs) free other h))
    ∙ skolem-same n free other xs _ _ h

-- ---- normal forms

list-names : (all : Bool) (fs : FormulaTrees) → free_names (list_form all fs) ≡ all_free_names fs
list-names true fs = refl
list-names false fs = refl

or-itself : (t : Bool) → (t || t) ≡ t
or-itself true = refl
or-itself false = refl

pair-names : (all : Bool) (f g : FormulaTree) (p : List ℕ → Bool) → list_any p (free_names (pair_form all f g)) ≡ (list_any p (free_names f) || list_any p (free_names g))
pair-names all f g p =
    ap (list_any p) (list-names all (formula_then f (formula_then g no_formulas)))
    ∙ any-joined p (free_names f) (free_names g ++ [])
    ∙ ap (λ t. list_any p (free_names f) || t) (any-joined p (free_names g) [] ∙ or-false (list_any p (free_names g)))

-- a pair of forms that have the free variables of two formulas
paired :
    (all : Bool) (a b f g : FormulaTree) → Same (free_names a) (free_names f) → Same (free_names b) (free_names g)
    → Same (free_names (pair_form all a b)) (free_names f ++ free_names g)
paired all a b f g h k p =
    pair-names all a b p ∙ ap (λ t. t || list_any p (free_names b)) (h p) ∙ ap (λ t. list_any p (free_names f) || t) (k p)
    ∙ sym (any-joined p (free_names f) (free_names g))

doubled :
    (a b c d f g : FormulaTree)
    → Same (free_names a) (free_names f) → Same (free_names b) (free_names g) → Same (free_names c) (free_names f) → Same (free_names d) (free_names g)
    → Same (free_names (pair_form true (pair_form false a b) (pair_form false c d))) (free_names f ++ free_names g)
doubled a b c d f g h k i j p =
    pair-names true (pair_form false a b) (pair_form false c d) p
    ∙ ap (λ t. t || list_any p (free_names (pair_form false c d))) (paired false a b f g h k p)
    ∙ ap (λ t. list_any p (free_names f ++ free_names g) || t) (paired false c d f g i j p)
    ∙ or-itself (list_any p (free_names f ++ free_names g))

mutual
  pub names-same : (f : FormulaTree) (sign : Bool) → Same (free_names (normal_form f sign)) (free_names f)
  names-same truth true p = refl
  names-same truth false p = refl
  names-same falsity true p = refl
  names-same falsity false p = refl
  names-same (predicate q ts) true p = refl
  names-same (predicate q ts) false p = refl
  names-same (equation positive s t) sign p = refl
  names-same (negation f) sign p = names-same f (not sign) p
  names-same (conjunction fs) sign p = ap (list_any p) (list-names sign (normal_forms fs sign)) ∙ all-names-same fs sign p
  names-same (disjunction fs) sign p = ap (list_any p) (list-names (not sign) (normal_forms fs sign)) ∙ all-names-same fs sign p
  names-same (connected implies f g) sign p =
      paired (not sign) (normal_form f (not sign)) (normal_form g sign) f g (names-same f (not sign)) (names-same g sign) p
  names-same (connected implied f g) sign p =
      paired (not sign) (normal_form f sign) (normal_form g (not sign)) f g (names-same f sign) (names-same g (not sign)) p
  names-same (connected nor f g) sign p =
      paired sign (normal_form f (not sign)) (normal_form g (not sign)) f g (names-same f (not sign)) (names-same g (not sign)) p
  names-same (connected nand f g) sign p =
      paired (not sign) (normal_form f (not sign)) (normal_form g (not sign)) f g (names-same f (not sign)) (names-same g (not sign)) p
  names-same (connected equivalent f g) sign p =
      doubled (normal_form f (not sign)) (normal_form g true) (normal_form f sign) (normal_form g false) f g
      (names-same f (not sign)) (names-same g true) (names-same f sign) (names-same g false) p
  names-same (connected different f g) sign p =
      doubled (normal_form f sign) (normal_form g true) (normal_form f (not sign)) (normal_form g false) f g
      (names-same f sign) (names-same g true) (names-same f (not sign)) (names-same g false) p
  names-same (quantified q xs f) sign p = without-same xs (free_names (normal_form f sign)) (free_names f) (names-same f sign) p

  all-names-same : (fs : FormulaTrees) (sign : Bool) → Same (all_free_names (normal_forms fs sign)) (all_free_names fs)
  all-names-same no_formulas sign p = refl
  all-names-same (formula_then f fs) sign p =
      any-joined p (free_names (normal_form f sign)) (all_free_names (normal_forms fs sign))
      ∙ ap (λ t. t || list_any p (all_free_names (normal_forms fs sign))) (names-same f sign p)
      ∙ ap (λ t. list_any p (free_names f) || t) (all-names-same fs sign p)
      ∙ sym (any-joined p (free_names f) (all_free_names fs))
