-- The negation normal form of a formula under a sign, in the formula's order: negation stands before predicates alone, and implications
-- and equivalences are written out.
use Rattle.std.specs.Prelude.{Bool, true, false, not}
use mathlib.Core.Bool.{beq}
use Rattle.tptp_tree.specs.Formula.{implies, implied, equivalent, different, nor, nand, Quantifier, for_all, exists_some, FormulaTree, truth, falsity, predicate, equation, negation, conjunction, disjunction, connected, quantified, FormulaTrees, no_formulas, formula_then, with_sign}

-- the truth value under a sign
abbrev pub constant_form : Bool → FormulaTree
constant_form true = truth
constant_form false = falsity

-- a conjunction, or else a disjunction
abbrev pub list_form : Bool → FormulaTrees → FormulaTree
list_form true fs = conjunction fs
list_form false fs = disjunction fs

-- the conjunction (`all`), or else the disjunction, of two formulas
abbrev pub pair_form : Bool → FormulaTree → FormulaTree → FormulaTree
pair_form all f g = list_form all (formula_then f (formula_then g no_formulas))

-- the quantifier under a sign: under the sign - `!` becomes `?` and `?` becomes `!`
abbrev pub quantifier_form : Bool → Quantifier → Quantifier
quantifier_form true q = q
quantifier_form false for_all = exists_some
quantifier_form false exists_some = for_all

abbrev mutual
  pub normal_form : FormulaTree → Bool → FormulaTree
  normal_form truth sign = constant_form sign
  normal_form falsity sign = constant_form (not sign)
  normal_form (predicate p ts) sign = with_sign sign (predicate p ts)
  normal_form (equation positive s t) sign = equation (beq positive sign) s t
  normal_form (negation f) sign = normal_form f (not sign)
  normal_form (conjunction fs) sign = list_form sign (normal_forms fs sign)
  normal_form (disjunction fs) sign = list_form (not sign) (normal_forms fs sign)
  normal_form (connected implies f g) sign = pair_form (not sign) (normal_form f (not sign)) (normal_form g sign)
  normal_form (connected implied f g) sign = pair_form (not sign) (normal_form f sign) (normal_form g (not sign))
  normal_form (connected nor f g) sign = pair_form sign (normal_form f (not sign)) (normal_form g (not sign))
  normal_form (connected nand f g) sign = pair_form (not sign) (normal_form f (not sign)) (normal_form g (not sign))
  normal_form (connected equivalent f g) sign =
      pair_form true
      (pair_form false (normal_form f (not sign)) (normal_form g true))
      (pair_form false (normal_form f sign) (normal_form g false))
  normal_form (connected different f g) sign =
      pair_form true
      (pair_form false (normal_form f sign) (normal_form g true))
      (pair_form false (normal_form f (not sign)) (normal_form g false))
  normal_form (quantified q xs f) sign = quantified (quantifier_form sign q) xs (normal_form f sign)

  pub normal_forms : FormulaTrees → Bool → FormulaTrees
  normal_forms no_formulas sign = no_formulas
  normal_forms (formula_then f fs) sign = formula_then (normal_form f sign) (normal_forms fs sign)
