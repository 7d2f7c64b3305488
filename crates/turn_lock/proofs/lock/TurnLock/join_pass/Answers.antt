use Rattle.std.proofs.Common.{rules, ◌≡◌, ◌++◌, ◌<◌, List, Option, ap, sym, ◌∙◌, subst}
use Rattle.atomic_table.specs.Table.{Me}
use Rattle.turn_lock.specs.declared.view.View.{View}
use Rattle.turn_lock.specs.History.{AreAdded, AreApart, AreKeysApart, IsDistinct, OwnsKeys, longer}
use Rattle.turn_lock.specs.Shown.{Known}
use Rattle.turn_lock.specs.Steps.{joined}
use Rattle.turn_lock.proofs.Lists.{distinct_parts, keys_apart}
use Rattle.turn_lock.proofs.Keeps.{looks}
use Rattle.turn_lock.proofs.Passes.{joins}
use Rattle.turn_lock.proofs.lock.TurnLock.join_pass.Given.{Over}
use Rattle.turn_lock.proofs.lock.TurnLock.join_pass.Goals as goal

pub load-requires : goal.load-requires
load-requires g c = (search rules, search rules, looks _ _ _ _ _ _ _ (search rules))

pub load-requires-2 : goal.load-requires-2
load-requires-2 g c = (search rules, search rules, looks _ _ _ _ _ _ _ (search rules))

pub join_seat-requires : goal.join_seat-requires
join_seat-requires g c =
    let M = Me (Option g.row.S.Denot) (View g.row.S-Entry.Denot g.row.S-Origin.Denot) in
    let same = c.load.ensures.2.0 in let same' = c.load-2.ensures.2.0 in (
      search rules,
      search rules,
      ap (λ (m : M). m.1) same' ∙ c.other.invariant.0,
      search rules,
      joins _ _ _ _ _ _ _ _ (ap (λ (m : M). m.0.held) same ∙ c.pass.invariant.1) (ap (λ (m : M). m.0.held) same' ∙ c.other.invariant.1)
          (subst (λ (m : M). 0 < m.0.shares) (sym same) c.pass.invariant.2) (subst (λ (m : M). 0 < m.0.shares) (sym same') c.other.invariant.2),
    )

pub load-requires-3 : goal.load-requires-3
load-requires-3 g c = (search rules, search rules, looks _ _ _ _ _ _ _ (search rules))

pub returns-clause-added : goal.returns-clause-added
returns-clause-added g c = let M = Me (Option g.row.S.Denot) (View g.row.S-Entry.Denot g.row.S-Origin.Denot) in
    subst (λ (m : M). AreAdded m.0.start m.0.seen m.0.own) (sym c.load-3.ensures.2.0) c.load-3.ensures.2.1.added

pub returns-clause-keys : goal.returns-clause-keys
returns-clause-keys g c = let M = Me (Option g.row.S.Denot) (View g.row.S-Entry.Denot g.row.S-Origin.Denot) in
    subst (λ (m : M). OwnsKeys g.S.Historied.key m.0.seen m.0.own) (sym c.load-3.ensures.2.0) c.load-3.ensures.2.1.keys

-- the joined view has the places of both
both_own : (g : Over) (c : goal.After-load-3 g) → c.join_seat.new.seat.me.0.own ≡ c.pass.inside.seat.me.0.own ++ c.other.inside.seat.me.0.own
both_own g c = let M = Me (Option g.row.S.Denot) (View g.row.S-Entry.Denot g.row.S-Origin.Denot) in
    ap (λ (m : M). m.0.own) {y = (joined c.load.new.seat.me.0 c.load-2.new.seat.me.0, c.load.new.seat.me.1)} c.join_seat.ensures.2
    ∙ (λ i. (c.load.ensures.2.0 i).0.own ++ (c.load-2.ensures.2.0 i).0.own)

-- and has seen the longer list
both_seen : (g : Over) (c : goal.After-load-3 g) → c.load-3.new.seat.me.0.seen ≡ longer c.pass.inside.seat.me.0.seen c.other.inside.seat.me.0.seen
both_seen g c = let M = Me (Option g.row.S.Denot) (View g.row.S-Entry.Denot g.row.S-Origin.Denot) in
    ap (λ (m : M). m.0.seen) c.load-3.ensures.2.0
    ∙ (ap (λ (m : M). m.0.seen) {y = (joined c.load.new.seat.me.0 c.load-2.new.seat.me.0, c.load.new.seat.me.1)} c.join_seat.ensures.2
    ∙ (λ i. longer (c.load.ensures.2.0 i).0.seen (c.load-2.ensures.2.0 i).0.seen))

parts_apart : (g : Over) (c : goal.After-load-3 g) → AreApart c.pass.inside.seat.me.0.own c.other.inside.seat.me.0.own
parts_apart g c = distinct_parts c.pass.inside.seat.me.0.own c.other.inside.seat.me.0.own (subst IsDistinct (both_own g c) c.load-3.ensures.2.1.once)

pub returns-clause-apart : goal.returns-clause-apart
returns-clause-apart g c = let P = Known g.row.S-Entry.Denot g.row.S-Origin.Denot in
    subst (λ (p : P). AreApart p.own c.args.other.own) c.pass.view_is
    (subst (λ (p : P). AreApart c.pass.inside.seat.me.0.own p.own) c.other.view_is (parts_apart g c))

pub returns-clause-keys_apart : goal.returns-clause-keys_apart
returns-clause-keys_apart g c = let P = Known g.row.S-Entry.Denot g.row.S-Origin.Denot in let key = g.S.Historied.key in
    let mine = c.pass.inside.seat.me.0 in let theirs = c.other.inside.seat.me.0 in
    subst (λ (p : P). AreKeysApart key c.load-3.new.seat.me.0.seen p.own c.args.other.own) c.pass.view_is
    (subst (λ (p : P). AreKeysApart key c.load-3.new.seat.me.0.seen mine.own p.own) c.other.view_is
    (subst (λ (l : List g.row.S-Entry.Denot). AreKeysApart key l mine.own theirs.own) (sym (both_seen g c))
    (keys_apart key mine.seen theirs.seen mine.own theirs.own c.load.ensures.2.1.keys c.load-2.ensures.2.1.keys (parts_apart g c))))
