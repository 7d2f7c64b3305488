use Rattle.std.proofs.Common.{◌≡◌, Some, IsSome, sym, refl, ap, ◌∙◌, subst}
use mathlib.Core.List.{IsPrefix}
use Rattle.turn_lock.specs.History.{OwnsAdded, OwnsKeys}
use Rattle.turn_lock.specs.Shown.{Known}
use Rattle.turn_lock.proofs.Passes.{closes, closes_as, IsLast}
use Rattle.turn_lock.proofs.lock.TurnLock.close.Given.{Over}
use Rattle.turn_lock.proofs.lock.TurnLock.close.Goals as goal

pub unwrap-state-requires : goal.unwrap-state-requires
unwrap-state-requires g c = let P = Known g.row.S-Entry.Denot g.row.S-Origin.Denot in
    let t = closes _ _ _ _ _ _ _ _ c.take.result c.close_with-closed.ensures.values.2 c.take.ensures.value c.pass.invariant.1 (ap (λ (p : P). p.shares) c.pass.view_is ∙ c.requires.whole) in
    subst IsSome (sym t.1) refl

last : (g : Over) (c : goal.After-free g) → IsLast g.S.Historied.history g.S.Historied.origin g.S.Historied.key c.pass.inside.seat.me.0 c.unwrap-state.result
last g c = let P = Known g.row.S-Entry.Denot g.row.S-Origin.Denot in
    closes_as _ _ _ c.pass.inside.seat.me.0 c.take.result c.unwrap-state.result
    (closes _ _ _ _ _ _ _ _ c.take.result c.close_with-closed.ensures.values.2 c.take.ensures.value c.pass.invariant.1 (ap (λ (p : P). p.shares) c.pass.view_is ∙ c.requires.whole))
    c.unwrap-state.ensures

pub returns-clause-seen : goal.returns-clause-seen
returns-clause-seen g c = let P = Known g.row.S-Entry.Denot g.row.S-Origin.Denot in
    subst (λ (p : P). IsPrefix p.seen (g.S.Historied.history c.unwrap-state.result)) c.pass.view_is (last g c).0

pub returns-clause-origin : goal.returns-clause-origin
returns-clause-origin g c = let P = Known g.row.S-Entry.Denot g.row.S-Origin.Denot in
    subst (λ (p : P). p.origin ≡ Some (g.S.Historied.origin c.unwrap-state.result)) c.pass.view_is (last g c).1

pub returns-clause-added : goal.returns-clause-added
returns-clause-added g c = let P = Known g.row.S-Entry.Denot g.row.S-Origin.Denot in
    subst (λ (p : P). OwnsAdded p.start (g.S.Historied.history c.unwrap-state.result) p.own) c.pass.view_is (last g c).2

pub returns-clause-keys : goal.returns-clause-keys
returns-clause-keys g c = let P = Known g.row.S-Entry.Denot g.row.S-Origin.Denot in
    subst (λ (p : P). OwnsKeys g.S.Historied.key (g.S.Historied.history c.unwrap-state.result) p.own) c.pass.view_is (last g c).3
