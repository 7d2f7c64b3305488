use Rattle.std.proofs.Common.{ℕ, sym, subst}
use Rattle.skolem.specs.Skolemized.{numbers_after}
use Rattle.skolem.specs.Bindings.{HasVariables}
use Rattle.skolem.proofs.AboutBindings.CoverLemmas.{covers-kept}
use Rattle.skolem.proofs.AboutBindings.ListLemmas.{begun-then, begun-longer}
use Rattle.skolem.proofs.AboutBindings.PlaceLemmas.{has-kept}
use Rattle.skolem.proofs.AboutFormulas.FormLemmas.{steps-then}
use Rattle.skolem.proofs.forms.bind_applied.Goals.{then-first-eq0, else-first-eq0}
use Rattle.skolem.proofs.forms.bind_applied.Goals as goal

pub loop-name-preserved : goal.loop-name-preserved
loop-name-preserved c = (
  steps-then (numbers_after c.args.signature.now) c.args.arguments.now.value.items c.args.names.now c.loop-name.name-index c.name-item.result
      c.loop-name.progress c.bind_skolem_term.new.progress _ c.loop-name-test.true c.name-item.is c.in_ok-bind_skolem_term.ensures.scope
      c.loop-name.invariant.0,
  (
    begun-then _ _ _ c.loop-name.invariant.1.0 c.loop-name.invariant.1.1.0 c.in_ok-bind_skolem_term.ensures.bindings,
    (
      begun-longer _ _ _ c.loop-name.invariant.1.1.0 c.in_ok-bind_skolem_term.ensures.bindings,
      (
        first,
        covers-kept c.loop-name.progress.bindings _ c.args.covers _ c.in_ok-bind_skolem_term.ensures.bindings c.loop-name.invariant.1.1.1.1,
      ),
    ),
  ),
)
  where
    has : ℕ → Type 0
    has n = HasVariables c.bind_skolem_term.new.progress.bindings n c.args.arguments.now.value.items

    first : has c.if-first-eq0.first
    first =
        elim c.if-first-eq0.branch [
          | then-first-eq0 w ↦ subst has (sym w.first-is) (subst has (sym w.len-first.ensures) c.in_ok-bind_skolem_term.ensures.last)
          | else-first-eq0 w ↦
              subst has (sym w.first-is)
              (has-kept c.loop-name.progress.bindings _ c.loop-name.first _ c.in_ok-bind_skolem_term.ensures.bindings c.loop-name.invariant.1.1.1.0)
        ]
