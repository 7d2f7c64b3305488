use Rattle.std.proofs.Common.{◌≡◌, ◌≤◌, ◌+◌, ◌*◌, ◌++◌, map, drop}
use Rattle.tptp_tree.specs.Formula.{formula_size, formulas_size, formulas_of}
use Rattle.signature.specs.Occurrences.{formulas_symbols}
use Rattle.formula_nnf.specs.Shape.{nnf_tree}
use Rattle.skolem.specs.Matrix.{matrices_of}
use Rattle.skolem.specs.Skolemized.{skolemized_list, numbers_after, AreKnown}
use Rattle.skolem.specs.Heavy.{matrix_totals, total_in}
use Rattle.skolem.specs.Progress.{environment_of, made_of}
use Rattle.skolem.proofs.AboutFormulas.FormLemmas.{list_left, matrices_left, made_left}
use Rattle.skolem.proofs.forms.+matrix_of.Given as goal

abbrev pub decreases-matrix_of : goal.decreases-matrix_of
decreases-matrix_of l = 2 * formula_size (nnf_tree l.form.now)

abbrev pub decreases-matrices_of : goal.decreases-matrices_of
decreases-matrices_of l = 2 * formulas_size (formulas_of (map nnf_tree l.forms.now)) + 1

abbrev pub invariant-matrices_of-loop-form : goal.invariant-matrices_of-loop-form
invariant-matrices_of-loop-form l =
    (matrices_of (l.matrices ++ matrices_left l.signature l.forms l.form-index l.progress)
    ≡ (skolemized_list (numbers_after l.signature) (formulas_of (map nnf_tree l.forms)) (environment_of l.initial.progress.bindings) (made_of l.initial.progress)).matrices)
    × ((made_left l.signature l.forms l.form-index l.progress
    ≡ (skolemized_list (numbers_after l.signature) (formulas_of (map nnf_tree l.forms)) (environment_of l.initial.progress.bindings) (made_of l.initial.progress)).made)
    × ((l.progress.bindings ≡ l.initial.progress.bindings)
    × (AreKnown l.signature (formulas_symbols (formulas_of (map nnf_tree (drop l.form-index l.forms))))
    × (l.counted + total_in l.in_clauses (matrix_totals (list_left l.signature l.forms l.form-index l.progress).matrices)
    ≤ l.initial.counted
    + total_in l.in_clauses
    (matrix_totals
    (skolemized_list (numbers_after l.signature) (formulas_of (map nnf_tree l.forms)) (environment_of l.initial.progress.bindings) (made_of l.initial.progress)).matrices)))))
