use Rattle.std.proofs.Common.{arith, ap, sym, refl, length, ◌∙◌, get_or, ◌-◌, ◌<◌, subst}
use Rattle.skolem.specs.Bindings.{no_entry}
use Rattle.skolem.proofs.AboutBindings.BindingsLemmas.{found-place, place-under}
use Rattle.skolem.proofs.AboutBindings.PlaceLemmas.{no-variables, place-variables, alike-variables}
use Rattle.skolem.proofs.bindings.Bindings.place.Goals as goal

pub entry_at-requires : goal.entry_at-requires
entry_at-requires c =
    subst (λ es. c.place_of-place.result - 1 < length es) (sym c.as_slice.ensures.value)
    (found-place _ _ c.args.name.now c.place_of-place.result c.self.invariant c.place_of-place.ensures (omega (arith, c.if-place-eq0.false)))

pub returns-then-place-eq0-clause-variables : goal.returns-then-place-eq0-clause-variables
returns-then-place-eq0-clause-variables c =
    no-variables _ _ _ c.args.name.now c.place_of-place.result c.self.invariant c.self.view_is c.place_of-place.ensures c.if-place-eq0.true

pub returns-then-alike-eq0-clause-within : goal.returns-then-alike-eq0-clause-within
returns-then-alike-eq0-clause-within c = place-under _ _ _ c.args.name.now c.place_of-place.result c.self.invariant c.self.view_is c.place_of-place.ensures

pub returns-then-alike-eq0-clause-variables : goal.returns-then-alike-eq0-clause-variables
returns-then-alike-eq0-clause-variables c =
    place-variables _ _ _ c.args.name.now c.place_of-place.result c.self.invariant c.self.view_is c.place_of-place.ensures

pub returns-else-alike-eq0-clause-variables : goal.returns-else-alike-eq0-clause-variables
returns-else-alike-eq0-clause-variables c =
    (alike-variables _ _ _ c.args.name.now c.place_of-place.result _ c.entry_at.result.now c.self.invariant c.self.view_is c.place_of-place.ensures
    (omega (arith, c.if-place-eq0.false))
    (c.entry_at.ensures no_entry ∙ ap (λ es. get_or es (c.place_of-place.result - 1) no_entry) c.as_slice.ensures.value)
    refl (omega (arith, c.if-alike-eq0.false))).1
