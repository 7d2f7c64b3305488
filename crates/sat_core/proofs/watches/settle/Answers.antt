use Rattle.std.proofs.Common.{sym, ◌∙◌, subst}
use Rattle.sat_core.proofs.AboutTrails.PropagationLemmas.{propagates_one}
use Rattle.sat_core.specs.Known.{known}
use Rattle.sat_core.specs.Copies.{IsAloneAt}
use Rattle.sat_core.proofs.watches.settle.Goals as goal

pub returns-then-place-eq0-clause-propagates : goal.returns-then-place-eq0-clause-propagates
returns-then-place-eq0-clause-propagates c =
    let other = c.literal-other.result in
    let alone =
    subst (IsAloneAt c.args.trail.now.slots.items (known c.args.clauses.now) c.args.closed.number) (sym c.literal-other.ensures) c.requires.alone in
    propagates_one (known c.args.clauses.now) _ _ _ _ c.args.closed.number other c.requires.sound alone.within
    (record { member = alone.alone.member; free = sym c.place.ensures ∙ c.if-place-eq0.true; others = alone.alone.others })
    c.in_ok-push.ensures.trail c.in_ok-push.ensures.entries c.in_ok-push.ensures.slots
