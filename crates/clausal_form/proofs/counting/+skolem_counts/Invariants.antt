use Rattle.std.proofs.Common.{◌≡◌, ◌+◌, ◌*◌, true, false, map, drop}
use Rattle.tptp_tree.specs.Formula.{formula_size, formulas_size, formulas_of}
use Rattle.tptp_tree.specs.Shape.{formula_of}
use Rattle.signature.specs.Form.{all_skolem_count}
use Rattle.clausal_form.proofs.counting.+skolem_counts.Given as goal

abbrev pub decreases-skolem_counts : goal.decreases-skolem_counts
decreases-skolem_counts l = 2 * formula_size (formula_of l.formula.now)

abbrev pub decreases-all_skolem_counts : goal.decreases-all_skolem_counts
decreases-all_skolem_counts l = 2 * formulas_size (formulas_of (map formula_of l.formulas.now)) + 1

abbrev pub invariant-all_skolem_counts-loop-formula : goal.invariant-all_skolem_counts-loop-formula
invariant-all_skolem_counts-loop-formula l =
    (l.total.positive + all_skolem_count (formulas_of (map formula_of (drop l.formula-index l.formulas))) true
    ≡ all_skolem_count (formulas_of (map formula_of l.formulas)) true)
    × (l.total.negative + all_skolem_count (formulas_of (map formula_of (drop l.formula-index l.formulas))) false
    ≡ all_skolem_count (formulas_of (map formula_of l.formulas)) false)
