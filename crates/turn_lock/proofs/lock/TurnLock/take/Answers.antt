use Rattle.std.proofs.Common.{rules, Some, ap, sym, ◌∙◌, ◌∷◌, subst}
use Rattle.turn_lock.specs.History.{AreAdded}
use Rattle.turn_lock.specs.Shown.{Known}
use Rattle.atomic_table.specs.Table.{rest}
use Rattle.turn_lock.proofs.lock.TurnLock.take.Goals as goal

pub exchange-requires : goal.exchange-requires
exchange-requires g c = let t = c.close_gate.ensures.seized in let carried = ap (λ m. m.1) t.1 in
    (search rules, (Some t.0, carried ∙ ap (λ l. (0, Some t.0) ∷ rest l) (sym carried)))

pub returns-clause-added : goal.returns-clause-added
returns-clause-added g c = let P = Known g.row.S-Entry.Denot g.row.S-Origin.Denot in subst (λ (p : P). AreAdded p.start p.seen p.own) c.pass.view_is c.close_gate.ensures.seized.5
