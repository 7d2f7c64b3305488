use Rattle.std.proofs.Common.{◌≡◌, ◌<◌, ◌^◌, ℕ, true, List, refl, subst, sym, ◌∙◌}
use Rattle.std.specs.List.{list_all}
use Rattle.finite_models.specs.declared.flat.FlatLiteral.{FlatLiteral}
use Rattle.finite_models.specs.Digits.{digits}
use Rattle.finite_models.specs.EntryNames.{flat_fits}
use Rattle.finite_models.proofs.AboutLoops.AddsLemmas.{adds-nothing}
use Rattle.finite_models.proofs.AboutLoops.InstanceLemmas.{instance-next}
use Rattle.finite_models.proofs.instances.add_instances.Goals as goal

pub add_instance-requires-clause-fits : goal.add_instance-requires-clause-fits
add_instance-requires-clause-fits c =
    let low : c.loop-number.number < c.args.names.now.size ^ c.args.clause.now.slots =
    subst (λ k. c.loop-number.number < k) c.in_ok-count.ensures c.loop-number-test.true in
    subst (λ (vs : List ℕ). list_all (flat_fits c.args.names.now vs) c.as_slice-literals.result.now ≡ true)
    (sym (c.as_slice.ensures.value ∙ c.in_ok-fill_digits.ensures))
    (subst
    (λ (ls : List FlatLiteral).
    list_all (flat_fits c.args.names.now (digits c.args.names.now.size c.args.clause.now.slots c.loop-number.number)) ls ≡ true)
    (sym c.as_slice-literals.ensures) (c.requires.fits c.loop-number.number low))

pub loop-number-init : goal.loop-number-init
loop-number-init c = adds-nothing _ _ _ (λ v. refl)

pub loop-number-preserved : goal.loop-number-preserved
loop-number-preserved c =
    instance-next c.args.names.now c.args.clause.now.slots c.loop-number.number c.args.clause.now.literals c.as_slice-literals.result.now
    c.as_slice.result.now _ _ _ c.loop-number.invariant c.in_ok-add_instance.ensures c.as_slice-literals.ensures
    (c.as_slice.ensures.value ∙ c.in_ok-fill_digits.ensures)
