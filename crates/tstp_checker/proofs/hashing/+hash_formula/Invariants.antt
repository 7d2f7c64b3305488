use Rattle.std.proofs.Common.{◌≡◌, ◌+◌, ◌*◌, map, drop, fold}
use Rattle.tptp_tree.specs.Formula.{formula_size, formulas_size, formulas_of}
use Rattle.tptp_tree.specs.Shape.{formula_of}
use Rattle.tstp_checker.specs.Hashing.{formulas_writes}
use Rattle.tstp_checker.proofs.hashing.+hash_formula.Given as goal

abbrev pub decreases-hash_formula : goal.decreases-hash_formula
decreases-hash_formula g l = 2 * formula_size (formula_of l.formula.now)

abbrev pub decreases-hash_formulas : goal.decreases-hash_formulas
decreases-hash_formulas g l = 2 * formulas_size (formulas_of (map formula_of l.operands.now)) + 1

abbrev pub decreases-hash_negated : goal.decreases-hash_negated
decreases-hash_negated g l = 2 * formula_size l.operand.now + 1

abbrev pub decreases-hash_pair : goal.decreases-hash_pair
decreases-hash_pair g l = 2 * (formula_size l.left.now + formula_size l.right.now) + 1

abbrev pub decreases-hash_bound : goal.decreases-hash_bound
decreases-hash_bound g l = 2 * formula_size l.body.now + 1

abbrev pub invariant-hash_formulas-loop-operand : goal.invariant-hash_formulas-loop-operand
invariant-hash_formulas-loop-operand g l =
    fold g.H.Hasher.write l.state (formulas_writes (formulas_of (map formula_of (drop l.operand-index l.operands))))
    ≡ fold g.H.Hasher.write l.initial.state (formulas_writes (formulas_of (map formula_of l.operands)))
