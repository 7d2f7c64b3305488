use Rattle.std.proofs.Common.{◌≡◌, ℕ, ◌+◌, Bool, List, [], ◌∷◌, length, refl, ap, ap₂, sym, ◌∙◌, subst, Global, arith}
use Rattle.std.specs.Prelude.{nat_le}
use Rattle.std.specs.Vec.Iter.{into_iter_items}
use Rattle.std.specs.declared.vec.IntoIter.{IntoIter}
use Rattle.pool_core.specs.CountedList.{keys_in}
use Rattle.pool_core.specs.Demanded.{plus, total}
use Rattle.pool_history.specs.declared.batch.Entry.{Entry}
use Rattle.pool_core.specs.declared.interning.Interned.{Interned}
use Rattle.pool_core.specs.declared.pool.ProofState.{ProofState}
use Rattle.pool_core.proofs.AboutReturns.ArrivalLemmas.{AreCountedSoFar, less-second, room-for-less, so-far-begins, one-left, next-arrival, room-for-next, one-kept, one-other, all-counted, not-kept, nothing-left}
use Rattle.pool_core.proofs.pool.ProofState.count_entries.Goals as goal
use Rattle.pool_core.proofs.pool.ProofState.count_entries.Goals.{in-Kept+in-Some-next, in_default}

pub loop-entry-init : goal.loop-entry-init
loop-entry-init c =
    let same : into_iter_items c.into_iter-entry-iterator.result ≡ c.args.entries = c.into_iter-entry-iterator.ensures.into_iter_gives.0 ∙ c.into_vec-entry-items.ensures in
    let long = ap length same in
    record {
      so_far = so-far-begins c.args.bank.now c.args.options.split _ c.args.self.now (keys_in c.args.counted.now) c.args.entries c.args.results.items
          (into_iter_items c.into_iter-entry-iterator.result) (into_iter_items c.into_iter-results.result) same c.into_iter-results.ensures.rest;
      len = omega (arith, long);
      room = refl;
    }

pub push-requires : goal.push-requires
push-requires c =
    let left : length (into_iter_items c.loop-entry.entry-iterator) ≡ length (c.in-Some.entry ∷ into_iter_items c.next.new.self) = ap length c.in-Some.ensures.steps.0 in
    let room = c.requires.counted_room in
    omega (arith, left, room, c.loop-entry.invariant.len, c.loop-entry.invariant.room)

pub unreachable-requires : goal.unreachable-requires
unreachable-requires c =
    one-left c.args.bank.now c.args.options.split _ c.args.self.now (keys_in c.args.counted.now) c.args.entries c.args.results.items
    c.loop-entry.self (keys_in c.loop-entry.counted) c.in-Some.entry (into_iter_items c.next.new.self) (into_iter_items c.loop-entry.results)
    c.in-Kept.lines c.in-Kept.results c.in-Kept.is
    (subst (λ (es : List Entry). AreCountedSoFar c.args.bank.now c.args.options.split (nat_le c.args.options.inferences (c.len.result + c.len-2.result)) c.args.self.now (keys_in c.args.counted.now) c.args.entries c.args.results.items
    c.loop-entry.self (keys_in c.loop-entry.counted) es (into_iter_items c.loop-entry.results)) c.in-Some.ensures.steps.0 c.loop-entry.invariant.so_far)
    c.requires.results
    (omega (arith, c.in_default-next.ensures.cases.0, c.loop-entry.results.rest.ok.0))

pub arrive_counted-requires-clause-arrival : goal.arrive_counted-requires-clause-arrival
arrive_counted-requires-clause-arrival c =
    next-arrival c.args.bank.now c.args.options.split _ c.args.self.now (keys_in c.args.counted.now) c.args.entries c.args.results.items
    c.loop-entry.self (keys_in c.loop-entry.counted) c.in-Some.entry (into_iter_items c.next.new.self) (into_iter_items c.loop-entry.results)
    c.in-Kept.lines c.in-Kept.results c.in-Kept.is
    (subst (λ (es : List Entry). AreCountedSoFar c.args.bank.now c.args.options.split (nat_le c.args.options.inferences (c.len.result + c.len-2.result)) c.args.self.now (keys_in c.args.counted.now) c.args.entries c.args.results.items
    c.loop-entry.self (keys_in c.loop-entry.counted) es (into_iter_items c.loop-entry.results)) c.in-Some.ensures.steps.0 c.loop-entry.invariant.so_far)
    c.requires.results c.in-Some-next.interned (into_iter_items c.next-in-Kept.new.self) c.in-Some-next.ensures.items

pub arrive_counted-requires-clause-room : goal.arrive_counted-requires-clause-room
arrive_counted-requires-clause-room c =
    room-for-next c.args.bank.now c.args.options.split _ c.args.self.now (keys_in c.args.counted.now) c.args.entries c.args.results.items
    c.loop-entry.self (keys_in c.loop-entry.counted) c.in-Some.entry (into_iter_items c.next.new.self) (into_iter_items c.loop-entry.results)
    c.in-Kept.lines c.in-Kept.results c.in-Kept.is
    (subst (λ (es : List Entry). AreCountedSoFar c.args.bank.now c.args.options.split (nat_le c.args.options.inferences (c.len.result + c.len-2.result)) c.args.self.now (keys_in c.args.counted.now) c.args.entries c.args.results.items
    c.loop-entry.self (keys_in c.loop-entry.counted) es (into_iter_items c.loop-entry.results)) c.in-Some.ensures.steps.0 c.loop-entry.invariant.so_far)
    c.requires.results c.in-Some-next.interned (into_iter_items c.next-in-Kept.new.self) c.in-Some-next.ensures.items c.requires.room

pub loop-entry-preserved-after-fate : goal.loop-entry-preserved-after-fate
loop-entry-preserved-after-fate c =
    let bank = c.args.bank.now in
    let left : length (into_iter_items c.loop-entry.entry-iterator) ≡ length (c.in-Some.entry ∷ into_iter_items c.next.new.self) = ap length c.in-Some.ensures.steps.0 in
    let is_spent : Bool = nat_le c.args.options.inferences (c.len.result + c.len-2.result) in
    let so_far =
    subst (λ (es : List Entry). AreCountedSoFar bank c.args.options.split is_spent c.args.self.now (keys_in c.args.counted.now) c.args.entries c.args.results.items
    c.loop-entry.self (keys_in c.loop-entry.counted) es (into_iter_items c.loop-entry.results)) c.in-Some.ensures.steps.0 c.loop-entry.invariant.so_far in
    record {
      so_far = elim c.match-fate.branch [
        | in-Kept+in-Some-next w ↦
            subst (λ (s : ProofState). AreCountedSoFar bank c.args.options.split is_spent c.args.self.now (keys_in c.args.counted.now) c.args.entries c.args.results.items
            s (keys_in c.push.new.self) (into_iter_items c.next.new.self) (into_iter_items c.match-fate.results)) (sym w.self-is)
            (subst (λ (it : IntoIter Interned Global). AreCountedSoFar bank c.args.options.split is_spent c.args.self.now (keys_in c.args.counted.now) c.args.entries c.args.results.items
            w.arrive_counted.new.self (keys_in c.push.new.self) (into_iter_items c.next.new.self) (into_iter_items it)) (sym w.results-is)
            (one-kept bank c.args.options.split is_spent c.args.self.now (keys_in c.args.counted.now) c.args.entries c.args.results.items
            c.loop-entry.self w.arrive_counted.new.self (keys_in c.loop-entry.counted) (keys_in c.push.new.self) c.in-Some.entry (into_iter_items c.next.new.self)
            (into_iter_items c.loop-entry.results) (into_iter_items w.next-in-Kept.new.self) w.in-Some-next.interned w.in-Kept.lines w.in-Kept.results
            w.in-Kept.is w.in-Some-next.ensures.items c.push.ensures.keys
            w.arrive_counted.ensures.arrived w.arrive_counted.ensures.room w.arrive_counted.ensures.notes so_far))
        | in_default w ↦
            subst (λ (s : ProofState). AreCountedSoFar bank c.args.options.split is_spent c.args.self.now (keys_in c.args.counted.now) c.args.entries c.args.results.items
            s (keys_in c.push.new.self) (into_iter_items c.next.new.self) (into_iter_items c.match-fate.results)) (sym w.self-is)
            (subst (λ (it : IntoIter Interned Global). AreCountedSoFar bank c.args.options.split is_spent c.args.self.now (keys_in c.args.counted.now) c.args.entries c.args.results.items
            c.loop-entry.self (keys_in c.push.new.self) (into_iter_items c.next.new.self) (into_iter_items it)) (sym w.results-is)
            (one-other bank c.args.options.split is_spent c.args.self.now (keys_in c.args.counted.now) c.args.entries c.args.results.items
            c.loop-entry.self (keys_in c.loop-entry.counted) (keys_in c.push.new.self) c.in-Some.entry (into_iter_items c.next.new.self)
            (into_iter_items c.loop-entry.results) (not-kept c.in-Some.entry.fate w.in_default.not-Kept) c.push.ensures.keys so_far))
      ];
      len = omega (arith, left, c.push.ensures.len, c.loop-entry.invariant.len);
      room = c.push.ensures.room ∙ c.loop-entry.invariant.room;
    }

pub loop-entry-preserved : goal.loop-entry-preserved
loop-entry-preserved c =
    let bank = c.args.bank.now in
    let left : length (into_iter_items c.loop-entry.entry-iterator) ≡ length (c.in-Some.entry ∷ into_iter_items c.next.new.self) = ap length c.in-Some.ensures.steps.0 in
    let is_spent : Bool = nat_le c.args.options.inferences (c.len.result + c.len-2.result) in
    let so_far =
    subst (λ (es : List Entry). AreCountedSoFar bank c.args.options.split is_spent c.args.self.now (keys_in c.args.counted.now) c.args.entries c.args.results.items
    c.loop-entry.self (keys_in c.loop-entry.counted) es (into_iter_items c.loop-entry.results)) c.in-Some.ensures.steps.0 c.loop-entry.invariant.so_far in
    record {
      so_far = elim c.match-fate.branch [
        | in-Kept+in-Some-next w ↦
            subst (λ (s : ProofState). AreCountedSoFar bank c.args.options.split is_spent c.args.self.now (keys_in c.args.counted.now) c.args.entries c.args.results.items
            s (keys_in c.push.new.self) (into_iter_items c.next.new.self) (into_iter_items c.match-fate.results)) (sym w.self-is)
            (subst (λ (it : IntoIter Interned Global). AreCountedSoFar bank c.args.options.split is_spent c.args.self.now (keys_in c.args.counted.now) c.args.entries c.args.results.items
            w.arrive_counted.new.self (keys_in c.push.new.self) (into_iter_items c.next.new.self) (into_iter_items it)) (sym w.results-is)
            (one-kept bank c.args.options.split is_spent c.args.self.now (keys_in c.args.counted.now) c.args.entries c.args.results.items
            c.loop-entry.self w.arrive_counted.new.self (keys_in c.loop-entry.counted) (keys_in c.push.new.self) c.in-Some.entry (into_iter_items c.next.new.self)
            (into_iter_items c.loop-entry.results) (into_iter_items w.next-in-Kept.new.self) w.in-Some-next.interned w.in-Kept.lines w.in-Kept.results
            w.in-Kept.is w.in-Some-next.ensures.items c.push.ensures.keys
            w.arrive_counted.ensures.arrived w.arrive_counted.ensures.room w.arrive_counted.ensures.notes so_far))
        | in_default w ↦
            subst (λ (s : ProofState). AreCountedSoFar bank c.args.options.split is_spent c.args.self.now (keys_in c.args.counted.now) c.args.entries c.args.results.items
            s (keys_in c.push.new.self) (into_iter_items c.next.new.self) (into_iter_items c.match-fate.results)) (sym w.self-is)
            (subst (λ (it : IntoIter Interned Global). AreCountedSoFar bank c.args.options.split is_spent c.args.self.now (keys_in c.args.counted.now) c.args.entries c.args.results.items
            c.loop-entry.self (keys_in c.push.new.self) (into_iter_items c.next.new.self) (into_iter_items it)) (sym w.results-is)
            (one-other bank c.args.options.split is_spent c.args.self.now (keys_in c.args.counted.now) c.args.entries c.args.results.items
            c.loop-entry.self (keys_in c.loop-entry.counted) (keys_in c.push.new.self) c.in-Some.entry (into_iter_items c.next.new.self)
            (into_iter_items c.loop-entry.results) (not-kept c.in-Some.entry.fate w.in_default.not-Kept) c.push.ensures.keys so_far))
      ];
      len = omega (arith, left, c.push.ensures.len, c.loop-entry.invariant.len);
      room = c.push.ensures.room ∙ c.loop-entry.invariant.room;
    }

pub returns-clause-counted : goal.returns-clause-counted
returns-clause-counted c = λ table r interned is.
    let none : into_iter_items c.loop-entry.entry-iterator ≡ [] =
    nothing-left (into_iter_items c.loop-entry.entry-iterator) (omega (arith, c.in-None.ensures.steps.0, c.loop-entry.entry-iterator.rest.ok.0)) in
    let counted : c.len.result ≡ length (keys_in c.args.counted.now) = c.len.ensures in
    let many : c.len-3.result ≡ length (keys_in c.loop-entry.counted) = c.len-3.ensures in
    all-counted c.args.bank.now c.args.options.split _ c.args.self.now (keys_in c.args.counted.now) c.args.entries c.args.results.items
    c.loop-entry.self c.spend.new.self (keys_in c.loop-entry.counted) (into_iter_items c.loop-entry.entry-iterator) (into_iter_items c.loop-entry.results) c.args.options c.len-3.result
    refl c.requires.open none many
    (ap₂ (λ (m n : ℕ). nat_le c.args.options.inferences (m + n)) counted c.len-2.ensures)
    (c.spend.ensures.spent c.args.bank.now) c.loop-entry.invariant.so_far table r interned is

pub returns-clause-room : goal.returns-clause-room
returns-clause-room c = λ d deaths enough.
    let left : List Interned = into_iter_items c.loop-entry.results in
    c.spend.ensures.room d deaths
    (room-for-less c.loop-entry.self d (plus (total left) d) deaths deaths (less-second (total left) d) (omega arith) (c.loop-entry.invariant.so_far.room d deaths enough))

pub returns-clause-counted_len : goal.returns-clause-counted_len
returns-clause-counted_len c = omega (arith, c.in-None.ensures.steps.0, c.loop-entry.entry-iterator.rest.ok.0, c.loop-entry.invariant.len)

pub returns-clause-counted_room : goal.returns-clause-counted_room
returns-clause-counted_room c = c.loop-entry.invariant.room

pub returns-clause-notes : goal.returns-clause-notes
returns-clause-notes c = c.spend.ensures.notes ∙ c.loop-entry.invariant.so_far.notes
