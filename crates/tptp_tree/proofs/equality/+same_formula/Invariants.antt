use Rattle.std.proofs.Common.{◌≡◌, ◌+◌, ◌*◌, map, drop}
use Rattle.tptp_tree.specs.Codes.{encoded_formulas}
use Rattle.tptp_tree.specs.Formula.{formula_size, formulas_size, formulas_of}
use Rattle.tptp_tree.specs.Shape.{formula_of}
use Rattle.tptp_tree.specs.Equality.{same_terms}
use Rattle.tptp_tree.proofs.equality.+same_formula.Given as goal

abbrev pub decreases-are_same : goal.decreases-are_same
decreases-are_same l = 2 * formula_size (formula_of l.left.now)

abbrev pub decreases-same_formulas : goal.decreases-same_formulas
decreases-same_formulas l = 2 * formulas_size (formulas_of (map formula_of l.left.now)) + 1

abbrev pub decreases-same_negated : goal.decreases-same_negated
decreases-same_negated l = 2 * formula_size l.left.now + 1

abbrev pub decreases-same_pair : goal.decreases-same_pair
decreases-same_pair l = 2 * (formula_size l.first.now + formula_size l.second.now) + 1

abbrev pub decreases-same_bound : goal.decreases-same_bound
decreases-same_bound l = 2 * formula_size l.body.now + 1

abbrev pub invariant-same_formulas-loop-index : goal.invariant-same_formulas-loop-index
invariant-same_formulas-loop-index l =
    same_terms (encoded_formulas (formulas_of (map formula_of (drop l.index l.left)))) (encoded_formulas (formulas_of (map formula_of (drop l.index l.right))))
    ≡ same_terms (encoded_formulas (formulas_of (map formula_of l.left))) (encoded_formulas (formulas_of (map formula_of l.right)))
