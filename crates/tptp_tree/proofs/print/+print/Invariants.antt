use Rattle.std.proofs.Common.{◌≡◌, ◌+◌, ◌*◌, ◌++◌, map, drop}
use Rattle.tptp_tree.specs.Formula.{formula_size, formulas_size, formulas_of}
use Rattle.tptp_tree.specs.Shape.{formula_of}
use Rattle.tptp_tree.specs.Printing.{more_operands_text}
use Rattle.tptp_tree.proofs.print.+print.Given as goal

abbrev pub decreases-push_formula : goal.decreases-push_formula
decreases-push_formula l = 4 * formula_size (formula_of l.formula.now)

abbrev pub decreases-push_wrapped : goal.decreases-push_wrapped
decreases-push_wrapped l = 4 * formula_size (formula_of l.formula.now) + 1

abbrev pub decreases-push_negation : goal.decreases-push_negation
decreases-push_negation l = 4 * formula_size (formula_of l.inner.now) + 2

abbrev pub decreases-push_connected : goal.decreases-push_connected
decreases-push_connected l = 4 * (formula_size (formula_of l.left.now) + formula_size (formula_of l.right.now)) + 2

abbrev pub decreases-push_operands : goal.decreases-push_operands
decreases-push_operands l = 4 * formulas_size (formulas_of (map formula_of l.formulas.now)) + 3

abbrev pub decreases-push_more_operands : goal.decreases-push_more_operands
decreases-push_more_operands l = 4 * formulas_size (formulas_of (map formula_of l.formulas.now)) + 2

abbrev pub decreases-push_quantified : goal.decreases-push_quantified
decreases-push_quantified l = 4 * formula_size (formula_of l.body.now) + 2

abbrev pub invariant-push_more_operands-loop-formula : goal.invariant-push_more_operands-loop-formula
invariant-push_more_operands-loop-formula l =
    l.page.items ++ more_operands_text l.sign (formulas_of (map formula_of (drop l.formula-index l.formulas)))
    ≡ l.initial.page.items ++ more_operands_text l.sign (formulas_of (map formula_of l.formulas))
