use Rattle.std.proofs.Common.{rules, Option, subst}
use Rattle.atomic_table.specs.Table.{Me}
use Rattle.turn_lock.specs.declared.view.View.{View}
use Rattle.turn_lock.specs.Steps.{IsSeized}
use Rattle.turn_lock.proofs.Keeps.{seizes}
use Rattle.turn_lock.proofs.lock.TurnLock.close_gate.Goals as goal

pub compare_exchange-found-requires : goal.compare_exchange-found-requires
compare_exchange-found-requires g c = (search rules, search rules, seizes _ _ _ _ _ _ _ (search rules) (search rules))

pub returns-then-found-eq-OPEN-clause-seized : goal.returns-then-found-eq-OPEN-clause-seized
returns-then-found-eq-OPEN-clause-seized g c = let M = Me (Option g.row.S.Denot) (View g.row.S-Entry.Denot g.row.S-Origin.Denot) in
    subst (λ (m : M). IsSeized g.S.Historied.history g.S.Historied.origin g.S.Historied.key m c.compare_exchange-found.new.seat.me) c.loop.invariant.2 (c.compare_exchange-found.ensures.2.0 c.if-found-eq-OPEN.true)
