-- A code for typed formulas: an untyped formula whose quantifiers bind, for each variable, its name and its sort as a text.
use Rattle.std.specs.Prelude.{◌≡◌, ℕ, zero, suc, List, [], ◌∷◌, refl}
use Rattle.std.specs.Coded.{Coded, code_by}
use Rattle.std.proofs.Common.{ap, ap₂}
use Rattle.tptp_tree.specs.Codes.{formula_code}
use Rattle.tptp_tree.specs.Formula.{FormulaTree, truth as untyped_truth, falsity as untyped_falsity, predicate as untyped_predicate, equation as untyped_equation, negation as untyped_negation, conjunction as untyped_conjunction, disjunction as untyped_disjunction, connected as untyped_connected, quantified as untyped_quantified, FormulaTrees, no_formulas as no_untyped, formula_then as untyped_then}
use Rattle.typed_tree.specs.Sorts.{SortTree, individuals, named_sort}
use Rattle.typed_tree.specs.TypedFormula.{TypedVariable, TypedTree, truth, falsity, predicate, equation, negation, conjunction, disjunction, connected, quantified, TypedTrees, no_formulas, formula_then}

-- ---- variables

abbrev pub sort_text : SortTree → List ℕ
sort_text individuals = 0 ∷ []
sort_text (named_sort word) = 1 ∷ word

abbrev pub sort_of_text : List ℕ → SortTree
sort_of_text [] = individuals
sort_of_text (zero ∷ word) = individuals
sort_of_text (suc n ∷ word) = named_sort word

pub sort_of_text-text : (s : SortTree) → sort_of_text (sort_text s) ≡ s
sort_of_text-text individuals = refl
sort_of_text-text (named_sort word) = refl

abbrev pub variable_texts : List TypedVariable → List (List ℕ)
variable_texts [] = []
variable_texts (x ∷ xs) = x.name ∷ sort_text x.sort ∷ variable_texts xs

abbrev pub variables_of_texts : List (List ℕ) → List TypedVariable
variables_of_texts [] = []
variables_of_texts (x ∷ []) = []
variables_of_texts (x ∷ s ∷ xs) = record { name = x; sort = sort_of_text s } ∷ variables_of_texts xs

abbrev pub variable_with : List ℕ → SortTree → TypedVariable
variable_with name sort = record { name = name; sort = sort }

pub variables_of_texts-texts : (xs : List TypedVariable) → variables_of_texts (variable_texts xs) ≡ xs
variables_of_texts-texts [] = refl
variables_of_texts-texts (x ∷ xs) =
    ap₂ (λ (s : SortTree) (ys : List TypedVariable). variable_with x.name s ∷ ys) (sort_of_text-text x.sort) (variables_of_texts-texts xs)

-- ---- formulas

abbrev mutual
  pub encoded : TypedTree → FormulaTree
  encoded truth = untyped_truth
  encoded falsity = untyped_falsity
  encoded (predicate p ts) = untyped_predicate p ts
  encoded (equation positive s t) = untyped_equation positive s t
  encoded (negation f) = untyped_negation (encoded f)
  encoded (conjunction fs) = untyped_conjunction (encoded_formulas fs)
  encoded (disjunction fs) = untyped_disjunction (encoded_formulas fs)
  encoded (connected c f g) = untyped_connected c (encoded f) (encoded g)
  encoded (quantified q xs f) = untyped_quantified q (variable_texts xs) (encoded f)

  pub encoded_formulas : TypedTrees → FormulaTrees
  encoded_formulas no_formulas = no_untyped
  encoded_formulas (formula_then f fs) = untyped_then (encoded f) (encoded_formulas fs)

abbrev mutual
  pub decoded : FormulaTree → TypedTree
  decoded untyped_truth = truth
  decoded untyped_falsity = falsity
  decoded (untyped_predicate p ts) = predicate p ts
  decoded (untyped_equation positive s t) = equation positive s t
  decoded (untyped_negation f) = negation (decoded f)
  decoded (untyped_conjunction fs) = conjunction (decoded_formulas fs)
  decoded (untyped_disjunction fs) = disjunction (decoded_formulas fs)
  decoded (untyped_connected c f g) = connected c (decoded f) (decoded g)
  decoded (untyped_quantified q xs f) = quantified q (variables_of_texts xs) (decoded f)

  pub decoded_formulas : FormulaTrees → TypedTrees
  decoded_formulas no_untyped = no_formulas
  decoded_formulas (untyped_then f fs) = formula_then (decoded f) (decoded_formulas fs)

mutual
  pub decoded-formula : (f : TypedTree) → decoded (encoded f) ≡ f
  decoded-formula truth = refl
  decoded-formula falsity = refl
  decoded-formula (predicate p ts) = refl
  decoded-formula (equation positive s t) = refl
  decoded-formula (negation f) = ap negation (decoded-formula f)
  decoded-formula (conjunction fs) = ap conjunction (decoded-formulas fs)
  decoded-formula (disjunction fs) = ap disjunction (decoded-formulas fs)
  decoded-formula (connected c f g) = ap₂ (connected c) (decoded-formula f) (decoded-formula g)
  decoded-formula (quantified q xs f) = ap₂ (quantified q) (variables_of_texts-texts xs) (decoded-formula f)

  pub decoded-formulas : (fs : TypedTrees) → decoded_formulas (encoded_formulas fs) ≡ fs
  decoded-formulas no_formulas = refl
  decoded-formulas (formula_then f fs) = ap₂ formula_then (decoded-formula f) (decoded-formulas fs)

abbrev pub typed_code : Coded TypedTree
typed_code = code_by FormulaTree formula_code encoded decoded decoded-formula
