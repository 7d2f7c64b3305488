-- The truth of a formula in a finite interpretation (Tarski 1936): quantifiers range over the values below the size. That of a clause, for every
-- assignment of such values, is `HoldsIn` of `fol_base`.
use Rattle.std.specs.Prelude.{ℕ, Bool, true, false, not, ◌&&◌, ◌||◌, ◌==◌, if◌then◌else◌, List, [], ◌∷◌, bytes_eq}
use mathlib.Core.Bool.{beq}
use Rattle.std.specs.List.{list_any, list_all}
use Rattle.tptp_tree.specs.Term.{TermTree, variable, application, TermTrees, no_terms, term_then}
use Rattle.tptp_tree.specs.Formula.{BinaryConnective, implies, implied, equivalent, different, nor, nand, Quantifier, for_all, exists_some, FormulaTree, truth, falsity, predicate, equation, negation, conjunction, disjunction, connected, quantified, FormulaTrees, no_formulas, formula_then}
use Rattle.tptp_tree.specs.Entries.{is_conjecture}
use Rattle.tptp_tree.specs.declared.problem.Annotated.{Annotated}
use Rattle.fol_base.specs.Canonical.{numbers_from}
use Rattle.fol_base.specs.Interpretation.{Interpretation, symbol_value, sides_true}
use Rattle.signature.specs.declared.symbol.Symbol.{Symbol}
use Rattle.signature.specs.Symbol.{predicate_symbol, function_symbol, number_of}
use Rattle.signature.specs.Occurrences.{terms_count, problem_symbols}
use Rattle.signature.specs.Environment.{closed}

-- the variables in force with their values, the innermost first
abbrev pub Values : Type 0
Values = List (List ℕ × ℕ)

-- The value of the innermost variable of that name. A closed formula has no variable without a value; 0 stands for such.
abbrev pub value_in_force : Values → List ℕ → ℕ
value_in_force [] x = 0
value_in_force (b ∷ ρ) x = if bytes_eq b.0 x then b.1 else value_in_force ρ x

-- the value of a term; the symbols' numbers are their places in the list
abbrev mutual
  pub term_value : List Symbol → Interpretation → Values → TermTree → ℕ
  term_value known i ρ (variable x) = value_in_force ρ x
  term_value known i ρ (application f ts) = symbol_value i (number_of known (function_symbol f (terms_count ts))) (terms_values known i ρ ts)

  pub terms_values : List Symbol → Interpretation → Values → TermTrees → List ℕ
  terms_values known i ρ no_terms = []
  terms_values known i ρ (term_then t ts) = term_value known i ρ t ∷ terms_values known i ρ ts

-- the truth table of a connective over the truth of its two sides
abbrev pub connective_true : BinaryConnective → Bool → Bool → Bool
connective_true implies a b = not a || b
connective_true implied a b = a || not b
connective_true equivalent a b = beq a b
connective_true different a b = not (beq a b)
connective_true nor a b = not (a || b)
connective_true nand a b = not (a && b)

-- whether a test holds for all, or for some, values of the variables
abbrev pub values_tested : Quantifier → ℕ → List (List ℕ) → (Values → Bool) → Values → Bool
values_tested q size [] test ρ = test ρ
values_tested for_all size (x ∷ xs) test ρ = list_all (λ v. values_tested for_all size xs test ((x, v) ∷ ρ)) (numbers_from 0 size)
values_tested exists_some size (x ∷ xs) test ρ = list_any (λ v. values_tested exists_some size xs test ((x, v) ∷ ρ)) (numbers_from 0 size)

-- Whether a formula is true under values of its free variables, with Tarski's rule for each connective and quantifier. An atom is true if its
-- value is 1, which is the value of `$true`.
abbrev mutual
  pub formula_true : List Symbol → Interpretation → FormulaTree → Values → Bool
  formula_true known i truth ρ = true
  formula_true known i falsity ρ = false
  formula_true known i (predicate p ts) ρ = symbol_value i (number_of known (predicate_symbol p (terms_count ts))) (terms_values known i ρ ts) == 1
  formula_true known i (equation positive s t) ρ = sides_true positive (term_value known i ρ s) (term_value known i ρ t)
  formula_true known i (negation f) ρ = not (formula_true known i f ρ)
  formula_true known i (conjunction fs) ρ = all_formulas_true known i fs ρ
  formula_true known i (disjunction fs) ρ = some_formula_true known i fs ρ
  formula_true known i (connected c f g) ρ = connective_true c (formula_true known i f ρ) (formula_true known i g ρ)
  formula_true known i (quantified q xs f) ρ = values_tested q i.size xs (formula_true known i f) ρ

  pub all_formulas_true : List Symbol → Interpretation → FormulaTrees → Values → Bool
  all_formulas_true known i no_formulas ρ = true
  all_formulas_true known i (formula_then f fs) ρ = formula_true known i f ρ && all_formulas_true known i fs ρ

  pub some_formula_true : List Symbol → Interpretation → FormulaTrees → Values → Bool
  some_formula_true known i no_formulas ρ = false
  some_formula_true known i (formula_then f fs) ρ = formula_true known i f ρ || some_formula_true known i fs ρ

-- whether an entry's formula, closed, is true in an interpretation
abbrev pub annotated_true : List Symbol → Interpretation → Annotated → Bool
annotated_true known i a = formula_true known i (closed a) []

-- the conjecture is false, and the other formulas are true; so all are where there is no conjecture
abbrev pub is_model_of_problem : Interpretation → List Annotated → Bool
is_model_of_problem i fs = list_all (λ (a : Annotated). beq (annotated_true (problem_symbols fs) i a) (not (is_conjecture a.role))) fs
