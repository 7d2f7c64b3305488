use Rattle.std.proofs.Common.{◌≡◌, ◌+◌, ◌*◌, map, drop}
use Rattle.tptp_tree.specs.Formula.{formula_size, formulas_size, formulas_of}
use Rattle.tptp_tree.specs.Shape.{formula_of}
use Rattle.formula_nnf.specs.ClauseCount.{several_counts}
use Rattle.formula_nnf.specs.CappedCount.{count_of, capped_count}
use Rattle.formula_nnf.proofs.CappedLemmas.{rest_counts}
use Rattle.formula_nnf.proofs.clauses.+counts.Given as goal

abbrev pub decreases-counts : goal.decreases-counts
decreases-counts l = 4 * formula_size (formula_of l.formula.now)

abbrev pub decreases-several : goal.decreases-several
decreases-several l = 4 * formulas_size (formulas_of (map formula_of l.formulas.now)) + 3

abbrev pub decreases-pair : goal.decreases-pair
decreases-pair l = 4 * (formula_size (formula_of l.left.now) + formula_size (formula_of l.right.now)) + 1

abbrev pub decreases-doubled : goal.decreases-doubled
decreases-doubled l = 4 * (formula_size (formula_of l.left.now) + formula_size (formula_of l.right.now)) + 2

abbrev pub invariant-several-loop-formula : goal.invariant-several-loop-formula
invariant-several-loop-formula l =
    (capped_count (count_of l.total) ≡ count_of l.total)
    × (capped_count (rest_counts l.listed (count_of l.total) (formulas_of (map formula_of (drop l.formula-index l.formulas))) l.positive)
    ≡ capped_count (several_counts l.listed (formulas_of (map formula_of l.formulas)) l.positive))
