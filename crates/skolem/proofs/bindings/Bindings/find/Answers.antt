use Rattle.std.proofs.Common.{arith, ap, sym, length, ◌∙◌, get_or, ◌-◌, ◌<◌, subst}
use Rattle.skolem.specs.Bindings.{no_entry}
use Rattle.skolem.proofs.AboutBindings.BindingsLemmas.{found-none, found-place, found-some}
use Rattle.skolem.proofs.bindings.Bindings.find.Goals as goal

pub returns-then-place-eq0 : goal.returns-then-place-eq0
returns-then-place-eq0 c = found-none _ _ _ c.args.name.now c.place_of-place.result c.self.invariant c.self.view_is c.place_of-place.ensures c.if-place-eq0.true

pub entry_at-entry-requires : goal.entry_at-entry-requires
entry_at-entry-requires c =
    subst (λ es. c.place_of-place.result - 1 < length es) (sym c.as_slice.ensures.value)
    (found-place _ _ c.args.name.now c.place_of-place.result c.self.invariant c.place_of-place.ensures (omega (arith, c.if-place-eq0.false)))

pub returns : goal.returns
returns c =
    found-some _ _ _ c.args.name.now c.place_of-place.result _ c.self.invariant c.self.view_is c.place_of-place.ensures (omega (arith, c.if-place-eq0.false))
    (c.entry_at-entry.ensures no_entry ∙ ap (λ es. get_or es (c.place_of-place.result - 1) no_entry) c.as_slice.ensures.value)
