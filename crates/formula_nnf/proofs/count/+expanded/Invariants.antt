use Rattle.std.proofs.Common.{◌≡◌, ◌<◌, ◌+◌, ◌-◌, ◌*◌, ◌^◌, min, map, drop}
use Rattle.tptp_tree.specs.Formula.{formula_size, formulas_size, formulas_of}
use Rattle.tptp_tree.specs.Shape.{formula_of}
use Rattle.formula_nnf.specs.Expanded.{all_expanded_count}
use Rattle.formula_nnf.proofs.count.+expanded.Given as goal

abbrev pub decreases-expanded : goal.decreases-expanded
decreases-expanded l = 2 * formula_size (formula_of l.formula.now)

abbrev pub decreases-all_expanded : goal.decreases-all_expanded
decreases-all_expanded l = 2 * formulas_size (formulas_of (map formula_of l.formulas.now)) + 1

abbrev pub invariant-all_expanded-loop-formula : goal.invariant-all_expanded-loop-formula
invariant-all_expanded-loop-formula l =
    (l.total < 2 ^ 64)
    × (min (l.total + all_expanded_count (formulas_of (map formula_of (drop l.formula-index l.formulas)))) (2 ^ 64 - 1)
    ≡ min (all_expanded_count (formulas_of (map formula_of l.formulas))) (2 ^ 64 - 1))
