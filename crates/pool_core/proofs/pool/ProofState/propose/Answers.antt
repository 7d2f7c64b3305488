use Rattle.std.proofs.Common.{◌≡◌, ℕ, suc, List, [], ◌∷◌, length, refl, ap, sym, ◌∙◌, subst, arith}
use Rattle.std.specs.Prelude.{fold, option_to_list}
use Rattle.pool_core.specs.CountedList.{keys_in}
use Rattle.pool_history.specs.Returning.{proposed}
use Rattle.std.specs.Vec.Iter.{into_iter_items}
use Rattle.pool_core.specs.Demanded.{no_demand, plus, total}
use Rattle.pool_core.specs.Placing.{NotesDeaths, IsCountedStateOf}
use Rattle.pool_history.specs.Record.{PoolRecord}
use Rattle.pool_history.specs.declared.batch.Removal.{Removal}
use Rattle.pool_core.specs.declared.interning.Interned.{Interned}
use Rattle.pool_core.proofs.AboutReturns.ArrivalLemmas.{less-nothing, nothing-left, room-for-less}
use Rattle.pool_core.proofs.AboutReturns.ProposedLemmas.{AreProposedSoFar, proposals-begin, taken-result, one-removed, one-left-out, some-proposal, room-of-one, room-taken, room-to-die}
use Rattle.pool_core.proofs.pool.ProofState.propose.Goals as goal

pub loop-removal-init : goal.loop-removal-init
loop-removal-init c =
    let same : into_iter_items c.into_iter-removal-iterator.result ≡ c.args.removals = c.into_iter-removal-iterator.ensures.into_iter_gives.0 ∙ c.into_vec-removal-items.ensures in
    let long = ap length same in
    record {
      so_far = proposals-begin c.args.bank.now c.args.options c.args.event c.args.self.now (keys_in c.args.counted.now) c.args.removals c.args.results.items (into_iter_items c.into_iter-removal-iterator.result) (into_iter_items c.into_iter-results.result) same c.into_iter-results.ensures.rest;
      len = omega (arith, long);
      room = refl;
    }

pub die-requires-clause-room : goal.die-requires-clause-room
die-requires-clause-room c =
    let so_far = (subst (λ (ms : List Removal). AreProposedSoFar c.args.bank.now c.args.options c.args.event c.args.self.now (keys_in c.args.counted.now) c.args.removals c.args.results.items
    c.loop-removal.self (keys_in c.loop-removal.counted) ms (into_iter_items c.loop-removal.results)) c.in-Some.ensures.steps.0 c.loop-removal.invariant.so_far) in
    room-to-die c.loop-removal.self (total (into_iter_items c.loop-removal.results)) (length (into_iter_items c.next.new.self)) (so_far.room c.requires.room)

pub replace-requires-clause-interned : goal.replace-requires-clause-interned
replace-requires-clause-interned c =
    let so_far = (subst (λ (ms : List Removal). AreProposedSoFar c.args.bank.now c.args.options c.args.event c.args.self.now (keys_in c.args.counted.now) c.args.removals c.args.results.items
    c.loop-removal.self (keys_in c.loop-removal.counted) ms (into_iter_items c.loop-removal.results)) c.in-Some.ensures.steps.0 c.loop-removal.invariant.so_far) in
    let some = some-proposal c.args.bank.now c.args.options c.args.event c.args.self.now (keys_in c.args.counted.now) c.args.removals c.args.results.items c.loop-removal.self (keys_in c.loop-removal.counted) (c.in-Some.removal ∷ into_iter_items c.next.new.self) (into_iter_items c.loop-removal.results) c.requires.results so_far in
    let result = taken-result c.args.bank.now c.args.options c.args.event c.args.self.now (keys_in c.args.counted.now) c.args.removals c.args.results.items c.in-Some.removal (into_iter_items c.next.new.self) (into_iter_items c.loop-removal.results)
    (into_iter_items c.next_result-interned.new.results) c.next_result-interned.result c.next_result-interned.ensures.next c.next_result-interned.ensures.taken some.0 (length (some.1).parts) some.3 in (
      some.0,
      _,
      result.0,
      c.die.ensures.died c.args.bank.now some.0 some.1 c.in-Some.removal.justifiers c.loop-removal.self.queue.pairs some.4 refl some.2.proof,
    )

pub replace-requires-clause-room : goal.replace-requires-clause-room
replace-requires-clause-room c =
    let so_far = (subst (λ (ms : List Removal). AreProposedSoFar c.args.bank.now c.args.options c.args.event c.args.self.now (keys_in c.args.counted.now) c.args.removals c.args.results.items
    c.loop-removal.self (keys_in c.loop-removal.counted) ms (into_iter_items c.loop-removal.results)) c.in-Some.ensures.steps.0 c.loop-removal.invariant.so_far) in
    let after : List Interned = into_iter_items c.next_result-interned.new.results in
    let rest : ℕ = length (into_iter_items c.next.new.self) in
    room-of-one c.die.new.self c.next_result-interned.result (total after) rest
    (c.die.ensures.room (plus (total (option_to_list c.next_result-interned.result)) (total after)) rest
    (room-taken c.args.bank.now c.args.options c.args.event c.args.self.now (keys_in c.args.counted.now) c.args.removals c.args.results.items c.in-Some.removal (into_iter_items c.next.new.self) (into_iter_items c.loop-removal.results)
    after c.next_result-interned.result c.next_result-interned.ensures.next c.next_result-interned.ensures.taken
    c.loop-removal.self (suc rest) (so_far.room c.requires.room)))

pub replace-requires-clause-counted_room : goal.replace-requires-clause-counted_room
replace-requires-clause-counted_room c =
    let left : length (into_iter_items c.loop-removal.removal-iterator) ≡ length (c.in-Some.removal ∷ into_iter_items c.next.new.self) = ap length c.in-Some.ensures.steps.0 in
    let few = c.loop-removal.invariant.len in
    let room = c.requires.counted_room in
    omega (arith, left, few, room, c.loop-removal.invariant.room)

pub loop-removal-preserved-then-takes_effect : goal.loop-removal-preserved-then-takes_effect
loop-removal-preserved-then-takes_effect c =
    let left : length (into_iter_items c.loop-removal.removal-iterator) ≡ length (c.in-Some.removal ∷ into_iter_items c.next.new.self) = ap length c.in-Some.ensures.steps.0 in
    record {
      so_far =
          one-removed c.args.bank.now c.args.options c.args.event c.args.self.now (keys_in c.args.counted.now) c.args.removals c.args.results.items
          c.in-Some.removal (into_iter_items c.next.new.self) (into_iter_items c.loop-removal.results) (into_iter_items c.next_result-interned.new.results) c.next_result-interned.result
          c.next_result-interned.ensures.next c.next_result-interned.ensures.taken
          c.loop-removal.self c.die.new.self c.replace.new.self (keys_in c.loop-removal.counted) (keys_in c.replace.new.counted) (sym c.takes_effect.ensures ∙ c.if-takes_effect.true)
          c.die.ensures.died c.replace.ensures.replaced c.die.ensures.notes c.replace.ensures.notes c.die.ensures.room c.replace.ensures.room
          (subst (λ (ms : List Removal). AreProposedSoFar c.args.bank.now c.args.options c.args.event c.args.self.now (keys_in c.args.counted.now) c.args.removals c.args.results.items
          c.loop-removal.self (keys_in c.loop-removal.counted) ms (into_iter_items c.loop-removal.results)) c.in-Some.ensures.steps.0 c.loop-removal.invariant.so_far);
      len = let few = c.loop-removal.invariant.len in let more = c.replace.ensures.counted_len in omega (arith, left, few, more);
      room = c.replace.ensures.counted_room ∙ c.loop-removal.invariant.room;
    }

pub loop-removal-preserved-else-takes_effect : goal.loop-removal-preserved-else-takes_effect
loop-removal-preserved-else-takes_effect c =
    let left : length (into_iter_items c.loop-removal.removal-iterator) ≡ length (c.in-Some.removal ∷ into_iter_items c.next.new.self) = ap length c.in-Some.ensures.steps.0 in
    record {
      so_far =
          one-left-out c.args.bank.now c.args.options c.args.event c.args.self.now (keys_in c.args.counted.now) c.args.removals c.args.results.items
          c.in-Some.removal (into_iter_items c.next.new.self) (into_iter_items c.loop-removal.results) (into_iter_items c.next_result-interned.new.results) c.next_result-interned.result
          c.next_result-interned.ensures.next c.next_result-interned.ensures.taken
          c.loop-removal.self (keys_in c.loop-removal.counted) (sym c.takes_effect.ensures ∙ c.if-takes_effect.false)
          (subst (λ (ms : List Removal). AreProposedSoFar c.args.bank.now c.args.options c.args.event c.args.self.now (keys_in c.args.counted.now) c.args.removals c.args.results.items
          c.loop-removal.self (keys_in c.loop-removal.counted) ms (into_iter_items c.loop-removal.results)) c.in-Some.ensures.steps.0 c.loop-removal.invariant.so_far);
      len = let few = c.loop-removal.invariant.len in omega (arith, left, few);
      room = c.loop-removal.invariant.room;
    }

pub loop-removal-preserved : goal.loop-removal-preserved
loop-removal-preserved c =
    let left : length (into_iter_items c.loop-removal.removal-iterator) ≡ length (c.in-Some.removal ∷ into_iter_items c.next.new.self) = ap length c.in-Some.ensures.steps.0 in
    record {
      so_far =
          one-left-out c.args.bank.now c.args.options c.args.event c.args.self.now (keys_in c.args.counted.now) c.args.removals c.args.results.items
          c.in-Some.removal (into_iter_items c.next.new.self) (into_iter_items c.loop-removal.results) (into_iter_items c.next_result-interned.new.results) c.next_result-interned.result
          c.next_result-interned.ensures.next c.next_result-interned.ensures.taken
          c.loop-removal.self (keys_in c.loop-removal.counted) (sym c.takes_effect.ensures ∙ c.if-takes_effect.false)
          (subst (λ (ms : List Removal). AreProposedSoFar c.args.bank.now c.args.options c.args.event c.args.self.now (keys_in c.args.counted.now) c.args.removals c.args.results.items
          c.loop-removal.self (keys_in c.loop-removal.counted) ms (into_iter_items c.loop-removal.results)) c.in-Some.ensures.steps.0 c.loop-removal.invariant.so_far);
      len = let few = c.loop-removal.invariant.len in omega (arith, left, few);
      room = c.loop-removal.invariant.room;
    }

pub returns-clause-proposed : goal.returns-clause-proposed
returns-clause-proposed c = λ table r moment interned is.
    let none : into_iter_items c.loop-removal.removal-iterator ≡ [] =
    nothing-left (into_iter_items c.loop-removal.removal-iterator) (omega (arith, c.in-None.ensures.steps.0, c.loop-removal.removal-iterator.rest.ok.0)) in
    let was = c.loop-removal.invariant.so_far.came table r moment interned is in
    subst (IsCountedStateOf c.args.bank.now table c.loop-removal.self (keys_in c.loop-removal.counted))
    (ap (λ (ms : List Removal). fold (proposed c.args.options) was.0 ms) (sym none) ∙ was.4) was.1

pub returns-clause-noted : goal.returns-clause-noted
returns-clause-noted c = λ table r moment interned is.
    let none : into_iter_items c.loop-removal.removal-iterator ≡ [] =
    nothing-left (into_iter_items c.loop-removal.removal-iterator) (omega (arith, c.in-None.ensures.steps.0, c.loop-removal.removal-iterator.rest.ok.0)) in
    let was = c.loop-removal.invariant.so_far.came table r moment interned is in
    subst (λ (s : PoolRecord). NotesDeaths r s c.args.self.now.notes.items c.loop-removal.self.notes.items)
    (ap (λ (ms : List Removal). fold (proposed c.args.options) was.0 ms) (sym none) ∙ was.4) was.5

pub returns-clause-room : goal.returns-clause-room
returns-clause-room c =
    let left : List Interned = into_iter_items c.loop-removal.results in
    room-for-less c.loop-removal.self no_demand (total left) 0 (length (into_iter_items c.loop-removal.removal-iterator)) (less-nothing (total left)) (omega arith)
    (c.loop-removal.invariant.so_far.room c.requires.room)
