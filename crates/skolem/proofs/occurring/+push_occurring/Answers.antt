use Rattle.std.proofs.Common.{arith, ap, sym, subst, ◌∙◌}
use Rattle.tptp_tree.specs.Formula.{formula_size}
use Rattle.formula_nnf.specs.Shape.{nnf_tree}
use Rattle.skolem.specs.Progress.{AreClosedFrom}
use Rattle.skolem.proofs.AboutBindings.OccurringLemmas.{form-item-is, forms-added}
use Rattle.skolem.proofs.AboutBindings.PlaceLemmas.{closed-both, form-step}
use Rattle.skolem.proofs.occurring.+push_occurring.Goals as goal

pub push_all_occurring-push_occurring-requires : goal.push_all_occurring-push_occurring-requires
push_all_occurring-push_occurring-requires t c = (
  omega (arith, form-item-is _ _ _ c.loop-form-test.true c.form-item.is, c.decreases),
  subst (AreClosedFrom c.args.outer) (sym c.loop-form.invariant.1) c.requires.inner,
)

pub push_all_occurring-loop-form-preserved : goal.push_all_occurring-loop-form-preserved
push_all_occurring-loop-form-preserved t c = (
  forms-added _ _ _ _ c.args.forms.now _ c.form-item.result c.loop-form-test.true c.form-item.is
      (form-step c.args.outer c.args.bindings.now c.loop-form.bindings c.loop-form.places.items c.push_occurring.new.places.items
      (nnf_tree c.form-item.result) c.loop-form.invariant.1 c.in_ok-push_occurring.ensures.found)
      c.loop-form.invariant.0,
  c.in_ok-push_occurring.ensures.bindings ∙ c.loop-form.invariant.1,
)

pub push_occurring_under-push_occurring-requires : goal.push_occurring_under-push_occurring-requires
push_occurring_under-push_occurring-requires t c = (
  omega (arith, c.decreases, ap formula_size c.get.ensures),
  closed-both _ _ _ c.in_ok-close_names.ensures.before c.requires.inner c.in_ok-close_names.ensures.inner,
)
