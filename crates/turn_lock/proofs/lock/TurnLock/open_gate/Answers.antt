use Rattle.std.proofs.Common.{rules, ◌≡◌, [], ◌∷◌, Option, Some, ap, sym, subst, ◌∙◌, refl, unwrap_or}
use Rattle.atomic_table.specs.Table.{Me}
use Rattle.turn_lock.specs.declared.view.View.{View}
use Rattle.turn_lock.specs.History.{AreAdded, OwnsKeys}
use Rattle.turn_lock.specs.Steps.{raised, released}
use Rattle.turn_lock.proofs.Lists.{some_held}
use Rattle.turn_lock.proofs.Keeps.{filled, raises_at, raised_at, releases_at}
use Rattle.turn_lock.proofs.lock.TurnLock.open_gate.Given.{Over}
use Rattle.turn_lock.proofs.lock.TurnLock.open_gate.Goals as goal

pub store-requires : goal.store-requires
store-requires g c = let seat = c.args.seat.now in (
  search rules,
  search rules,
  raises_at g.S.Historied.history g.S.Historied.origin g.S.Historied.key _ _ _ _ seat.me.0 c.args.state (unwrap_or seat.me.0.held []) _
      (filled g.S.Historied.history g.S.Historied.origin g.S.Historied.key seat.me c.exchange-left.new.seat.me c.args.state c.requires.hold.0 c.exchange-left.ensures.3)
      (some_held seat.me.0.held c.requires.hold.1) c.requires.grown c.requires.keys c.len-length.ensures,
)

pub store-requires-2 : goal.store-requires-2
store-requires-2 g c = let seat = c.args.seat.now in (
  search rules,
  search rules,
  releases_at g.S.Historied.history g.S.Historied.origin g.S.Historied.key _ _ _ _ _ c.args.state (search rules)
      (raised_at g.S.Historied.history g.S.Historied.origin g.S.Historied.key c.self.inside.table.shared.table_id.slots c.exchange-left.new.seat.me c.store.new.seat.me seat.me.0 c.args.state (unwrap_or seat.me.0.held []) c.len-length.result
      (filled g.S.Historied.history g.S.Historied.origin g.S.Historied.key seat.me c.exchange-left.new.seat.me c.args.state c.requires.hold.0 c.exchange-left.ensures.3)
      (some_held seat.me.0.held c.requires.hold.1) c.store.ensures.2).0
      refl c.requires.origin,
)

-- the seat, once the length is raised
counted : (g : Over) (c : goal.After-store-2 g) → (c.store.new.seat.me ≡ (raised c.args.seat.now.me.0 (unwrap_or c.args.seat.now.me.0.held []) (g.S.Historied.history c.args.state), (0, Some c.args.state) ∷ []))
    × AreAdded c.store.new.seat.me.0.start c.store.new.seat.me.0.seen c.store.new.seat.me.0.own × OwnsKeys g.S.Historied.key c.store.new.seat.me.0.seen c.store.new.seat.me.0.own
counted g c = let seat = c.args.seat.now in
    raised_at g.S.Historied.history g.S.Historied.origin g.S.Historied.key c.self.inside.table.shared.table_id.slots c.exchange-left.new.seat.me c.store.new.seat.me seat.me.0 c.args.state (unwrap_or seat.me.0.held []) c.len-length.result
    (filled g.S.Historied.history g.S.Historied.origin g.S.Historied.key seat.me c.exchange-left.new.seat.me c.args.state c.requires.hold.0 c.exchange-left.ensures.3)
    (some_held seat.me.0.held c.requires.hold.1) c.store.ensures.2

pub returns-clause-view : goal.returns-clause-view
returns-clause-view g c = c.store-2.ensures.2 ∙ ap (λ m. (released m.0, [])) (counted g c).0

pub returns-clause-added : goal.returns-clause-added
returns-clause-added g c = let M = Me (Option g.row.S.Denot) (View g.row.S-Entry.Denot g.row.S-Origin.Denot) in
    subst (λ (m : M). AreAdded m.0.start m.0.seen m.0.own) (sym c.store-2.ensures.2) (counted g c).1

pub returns-clause-keys : goal.returns-clause-keys
returns-clause-keys g c = let M = Me (Option g.row.S.Denot) (View g.row.S-Entry.Denot g.row.S-Origin.Denot) in
    subst (λ (m : M). OwnsKeys g.S.Historied.key m.0.seen m.0.own) (sym c.store-2.ensures.2) (counted g c).2
