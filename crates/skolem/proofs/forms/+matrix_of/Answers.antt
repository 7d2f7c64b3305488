use Rattle.std.proofs.Common.{◌++◌, arith, ap, refl, ◌∙◌}
use Rattle.std.proofs.lemmas.Result.{err_from_is_err_and}
use Rattle.formula_nnf.specs.Shape.{nnf_tree}
use Rattle.skolem.specs.Matrix.{matrices_of}
use Rattle.skolem.specs.Skolemized.{numbers_after}
use Rattle.skolem.specs.Progress.{environment_of, made_of}
use Rattle.skolem.proofs.AboutBindings.OccurringLemmas.{form-item-is}
use Rattle.skolem.proofs.AboutFormulas.FormLemmas.{listed, matrices_left, forms-known}
use Rattle.skolem.proofs.AboutFormulas.HeavyLemmas.{ended-member, counted-product, ended-product}
use Rattle.skolem.proofs.forms.+matrix_of.Goals as goal

pub matrices_of-loop-form-init : goal.matrices_of-loop-form-init
matrices_of-loop-form-init t c = (
  ap (λ us. matrices_of (us ++ matrices_left c.args.signature.now c.args.forms.now 0 c.args.progress.now)) c.new-matrices.ensures ∙ listed _,
  (refl, (refl, (c.requires.known, omega arith))),
)

pub matrices_of-matrix_of-requires : goal.matrices_of-matrix_of-requires
matrices_of-matrix_of-requires t c = (
  omega (arith, form-item-is _ _ _ c.loop-form-test.true c.form-item.is, c.decreases),
  (forms-known c.args.signature.now _ _ c.form-item.result c.loop-form-test.true c.form-item.is c.loop-form.invariant.1.1.1.0).0,
)

pub matrices_of-returns-in_err-matrix-clause-ended : goal.matrices_of-returns-in_err-matrix-clause-ended
matrices_of-returns-in_err-matrix-clause-ended t c =
    let p = err_from_is_err_and c.from_residual.result c.from_residual.ensures.1 in
    rw (p.1, p.2)
    (ended-member c.args.signature.now c.args.forms.now c.loop-form.form-index c.form-item.result c.loop-form.progress c.loop-form.matrices _ _ c.args.in_clauses
    c.loop-form.counted c.args.counted.now c.loop-form-test.true c.form-item.is c.loop-form.invariant.0 c.loop-form.invariant.1.1.1.1
    c.in_err-matrix.ensures.ended)

pub matrix_of-returns-in_err-members-in-Or-clause-ended : goal.matrix_of-returns-in_err-members-in-Or-clause-ended
matrix_of-returns-in_err-members-in-Or-clause-ended t c =
    let p = err_from_is_err_and c.from_residual-in_err-members-in-Or.result c.from_residual-in_err-members-in-Or.ensures.1 in
    rw (p.1, p.2)
    (ended-product (numbers_after c.args.signature.now) (nnf_tree c.args.form.now) _ _ (environment_of c.args.progress.now.bindings) (made_of c.args.progress.now)
    c.args.counted.now _ c.args.in_clauses c.are_in_clauses-inside.result (ap nnf_tree c.in-Or.is) c.as_slice-forms-in-Or.ensures
    c.are_in_clauses-inside.ensures c.in_err-members-in-Or.ensures.ended)

pub matrix_of-returns-in_ok-members-in-Or-clause-counted : goal.matrix_of-returns-in_ok-members-in-Or-clause-counted
matrix_of-returns-in_ok-members-in-Or-clause-counted t c =
    counted-product (numbers_after c.args.signature.now) (nnf_tree c.args.form.now) _ _ (environment_of c.args.progress.now.bindings) (made_of c.args.progress.now)
    c.args.counted.now _ c.args.in_clauses c.are_in_clauses-inside.result (ap nnf_tree c.in-Or.is) c.as_slice-forms-in-Or.ensures
    c.are_in_clauses-inside.ensures c.in_ok-members-in-Or.ensures.counted
