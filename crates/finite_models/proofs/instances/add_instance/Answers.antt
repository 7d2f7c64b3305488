use Rattle.std.proofs.Common.{refl, ◌∙◌}
use Rattle.finite_models.proofs.AboutLoops.AddsLemmas.{adds-nothing, writes-none}
use Rattle.finite_models.proofs.AboutLoops.InstanceLemmas.{test-at, true-found}
use Rattle.finite_models.specs.EntryNames.{flat_fits}
use Rattle.finite_models.proofs.instances.add_instance.Goals as goal

pub under-requires-clause-fits : goal.under-requires-clause-fits
under-requires-clause-fits c =
    test-at (flat_fits c.args.names.now c.args.values.now) c.args.literals.now c.loop-literal.literal-index c.literal-item.result c.requires.fits
    c.loop-literal-test.true c.literal-item.is

pub loop-literal-init : goal.loop-literal-init
loop-literal-init c = writes-none _ _ _ c.clear.ensures.items (λ v. refl)

pub returns-in-Truth-true : goal.returns-in-Truth-true
returns-in-Truth-true c =
    adds-nothing _ _ _
    (true-found c.args.names.now c.args.values.now c.args.literals.now c.loop-literal.literal-index c.literal-item.result c.loop-literal-test.true
    c.literal-item.is (λ entries. c.in-Truth-true.ensures entries ∙ c.in-Truth-true.field-0-test))
