use Rattle.std.proofs.Common.{sym, subst}
use Rattle.turn_lock.specs.History.{AddsOwnKeys}
use Rattle.turn_lock.specs.Shown.{Holding}
use Rattle.turn_lock.proofs.lock.TurnLock.give.Goals as goal

pub open_gate-requires-clause-keys : goal.open_gate-requires-clause-keys
open_gate-requires-clause-keys g c = let H = Holding g.row.S-Entry.Denot g.row.S-Origin.Denot in
    subst (λ (h : H). AddsOwnKeys g.S.Historied.key h.history h.pass.own (g.S.Historied.history c.args.turn.state)) (sym c.hold.view_is) c.requires.keys
