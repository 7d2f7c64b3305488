use Rattle.std.proofs.Common.{◌+◌, ◌∙◌, refl, arith}
use Rattle.std.proofs.lemmas.Result.{err_from_is_err_and}
use Rattle.skolem.proofs.AboutBindings.OccurringLemmas.{form-item-is}
use Rattle.skolem.proofs.AboutFormulas.FormLemmas.{forms-known, made-then}
use Rattle.skolem.proofs.AboutFormulas.OutlineLemmas.{outline-begun, outline-then, outline-ended, outline-over}
use Rattle.skolem.proofs.outline.+outline_in.Goals as goal

pub outline_in_all-loop-form-init : goal.outline_in_all-loop-form-init
outline_in_all-loop-form-init t c = (
  outline-begun c.args.signature.now c.args.forms.now c.args.progress.now c.stand_in_clauses-inside.result c.args.listed c.args.began _ c.constant-total.ensures,
  (refl, (refl, c.requires.known)),
)

pub outline_in_all-outline_in-requires : goal.outline_in_all-outline_in-requires
outline_in_all-outline_in-requires t c = (
  omega (arith, form-item-is _ _ _ c.loop-form-test.true c.form-item.is, c.decreases),
  (forms-known c.args.signature.now _ _ c.form-item.result c.loop-form-test.true c.form-item.is c.loop-form.invariant.1.1.1).0,
)

pub outline_in_all-loop-form-preserved : goal.outline_in_all-loop-form-preserved
outline_in_all-loop-form-preserved t c = (
  outline-then c.args.signature.now c.args.forms.now c.loop-form.form-index c.form-item.result c.loop-form.progress c.outline_in.new.progress
      c.args.in_clauses c.stand_in_clauses-inside.result c.args.listed c.args.began c.loop-form.total c.in_ok-total.total c.in_ok-member.member _
      c.loop-form-test.true c.form-item.is c.stand_in_clauses-inside.ensures c.in_ok-member.ensures.outline c.in_ok-member.ensures.made c.in_ok-member.ensures.bindings c.in_ok-total.ensures c.loop-form.invariant.0,
  (
    made-then c.args.signature.now c.args.forms.now c.loop-form.form-index c.form-item.result c.loop-form.progress c.outline_in.new.progress _
        c.loop-form-test.true c.form-item.is c.in_ok-member.ensures.made c.in_ok-member.ensures.bindings c.loop-form.invariant.1.0,
    (
      c.in_ok-member.ensures.bindings ∙ c.loop-form.invariant.1.1.0,
      (forms-known c.args.signature.now _ _ c.form-item.result c.loop-form-test.true c.form-item.is c.loop-form.invariant.1.1.1).1,
    ),
  ),
)

pub outline_in_all-returns-in_err-member-clause-ended : goal.outline_in_all-returns-in_err-member-clause-ended
outline_in_all-returns-in_err-member-clause-ended t c =
    let p = err_from_is_err_and c.from_residual.result c.from_residual.ensures.1 in
    rw (p.1, p.2)
    (outline-ended c.args.signature.now c.args.forms.now c.loop-form.form-index c.form-item.result c.loop-form.progress c.args.in_clauses
    c.stand_in_clauses-inside.result c.args.listed c.args.began c.loop-form.total _ _ c.loop-form-test.true c.form-item.is c.stand_in_clauses-inside.ensures c.in_err-member.ensures.ended c.loop-form.invariant.0)

pub outline_in_all-returns-then-lasting_size-gt-MOST_SYMBOLS-clause-ended : goal.outline_in_all-returns-then-lasting_size-gt-MOST_SYMBOLS-clause-ended
outline_in_all-returns-then-lasting_size-gt-MOST_SYMBOLS-clause-ended t c =
    outline-over c.args.signature.now c.args.forms.now (c.loop-form.form-index + 1) c.outline_in.new.progress c.args.in_clauses
    c.stand_in_clauses-inside.result c.args.listed c.args.began c.in_ok-total.total _
    (omega (arith, c.if-lasting_size-gt-MOST_SYMBOLS.true, c.lasting_size.ensures)) c.stand_in_clauses-inside.ensures
    (outline-then c.args.signature.now c.args.forms.now c.loop-form.form-index c.form-item.result c.loop-form.progress c.outline_in.new.progress
    c.args.in_clauses c.stand_in_clauses-inside.result c.args.listed c.args.began c.loop-form.total c.in_ok-total.total c.in_ok-member.member _
    c.loop-form-test.true c.form-item.is c.stand_in_clauses-inside.ensures
    c.in_ok-member.ensures.outline c.in_ok-member.ensures.made c.in_ok-member.ensures.bindings c.in_ok-total.ensures c.loop-form.invariant.0)
