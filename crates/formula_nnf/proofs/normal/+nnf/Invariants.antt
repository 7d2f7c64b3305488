use Rattle.std.proofs.Common.{◌≡◌, ◌+◌, ◌*◌, ◌++◌, map}
use Rattle.tptp_tree.specs.Formula.{formula_size, formulas_size, formulas_of}
use Rattle.tptp_tree.specs.Shape.{formula_of}
use Rattle.formula_nnf.specs.NormalForm.{normal_forms}
use Rattle.formula_nnf.proofs.FormLemmas.{forms_left}
use Rattle.formula_nnf.proofs.normal.+nnf.Given as goal

abbrev pub decreases-nnf : goal.decreases-nnf
decreases-nnf l = 4 * formula_size (formula_of l.formula.now)

abbrev pub decreases-nnfs : goal.decreases-nnfs
decreases-nnfs l = 4 * formulas_size (formulas_of (map formula_of l.formulas.now)) + 3

abbrev pub decreases-joined : goal.decreases-joined
decreases-joined l = 4 * (formula_size l.left.now + formula_size l.right.now) + 1

abbrev pub decreases-doubled : goal.decreases-doubled
decreases-doubled l = 4 * (formula_size l.left.now + formula_size l.right.now) + 2

abbrev pub decreases-quantified : goal.decreases-quantified
decreases-quantified l = 4 * formula_size l.body.now + 1

abbrev pub invariant-nnfs-loop-formula : goal.invariant-nnfs-loop-formula
invariant-nnfs-loop-formula l =
    formulas_of (l.forms ++ forms_left l.formulas l.formula-index l.positive) ≡ normal_forms (formulas_of (map formula_of l.formulas)) l.positive
