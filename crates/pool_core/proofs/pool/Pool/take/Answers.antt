use Rattle.std.specs.Prelude.{None}
use Rattle.std.proofs.Common.{◌≡◌, ◌++◌, [], ◌∷◌, ℕ, List, map, length, refl, ap, sym, ◌∙◌, subst, arith}
use Rattle.term_bank.specs.declared.bank.Bank.{Bank}
use Rattle.term_bank.specs.declared.table.Table.{Table}
use Rattle.pool_core.specs.CountedList.{keys_in}
use Rattle.pool_history.specs.Claiming.{ready, pair_of}
use Rattle.pool_core.specs.KeptEvents.{events_of}
use Rattle.pool_core.specs.Placing.{IsTakeable, IsWorkOf, IsSomeWork, IsOfGiven, IsLiving, IsCountedStateOf, NotesDeaths, heavy_keys_of}
use Rattle.pool_history.specs.Record.{PoolRecord}
use Rattle.pool_history.specs.Replay.{replay}
use Rattle.pool_history.specs.Returning.{worked}
use Rattle.pool_core.specs.State.{origin_of, IsProofStateOf}
use Rattle.pool_history.specs.View.{PoolView}
use Rattle.pool_history.specs.declared.batch.Batch.{Batch}
use Rattle.pool_history.specs.declared.event.Event.TheVariants.{Return}
use Rattle.clause_register.specs.declared.register.Registration.{Registration}
use Rattle.pool_history.proofs.AboutClaims.HistoryLemmas.{event-count}
use Rattle.pool_core.proofs.AboutClaims.StateLemmas.{record_of, kept-pool}
use Rattle.pool_core.proofs.AboutReturns.TakenLemmas.{taken-pool, without, worked-follows}
use Rattle.pool_core.proofs.AboutReturns.TakeableLemmas.{IsToBeTaken, to-be-taken, after-worked, open-record, work-of, noted-since}
use Rattle.pool_core.proofs.pool.Pool.take.Goals as goal

pub take_return_memory-memory-requires-clause-fit : goal.take_return_memory-memory-requires-clause-fit
take_return_memory-memory-requires-clause-fit g c =
    let to : IsToBeTaken c.self.inside c.args.batch c.args.number =
    to-be-taken c.self.inside c.args.batch c.args.number c.self.invariant
    (subst (λ (v : PoolView). IsTakeable v.origin v.history c.args.number c.args.batch) (sym c.self.view_is) c.requires.takeable) in
    (c.self.inside.options.split, length (record_of c.self.inside).parts, to.fit)

pub invariant_of-self : goal.invariant_of-self
invariant_of-self g c =
    let bank_is : c.self.inside.table.bank ≡ c.args.bank.now = ap (λ (v : PoolView). v.bank) c.self.view_is ∙ c.requires.bank in
    kept-pool c.self.inside _ c.self.invariant (record {
      origin = refl;
      bank = c.take_return_memory-memory.ensures.table ∙ sym bank_is;
      knows = c.take_return_memory-memory.ensures.knows;
      register = c.take_return_memory-memory.ensures.clauses;
      positions = refl;
      pairs = c.take_return_memory-memory.ensures.pairs;
      spare = c.take_return_memory-memory.ensures.spare;
      jobs = refl;
      history = refl;
      history_len = refl;
      history_room = omega arith;
      notes = c.take_return_memory-memory.ensures.notes;
      before = refl;
      before_len = refl;
      before_room = omega arith;
      steps = c.take_return_memory-memory.ensures.steps;
      counted = c.take_return_memory-memory.ensures.counted;
      set_aside = c.in_default.ensures.not_set_aside;
      ended = c.take_return_memory-memory.ensures.ended;
      splits = c.take_return_memory-memory.ensures.splits;
      asserting = c.take_return_memory-memory.ensures.asserting;
      solver = refl;
      last_job = refl;
      place = refl;
    })

pub returns-in_default-clause-open : goal.returns-in_default-clause-open
returns-in_default-clause-open g c =
    subst (λ (v : PoolView). (replay v.origin v.history).ended ≡ None) c.self.view_is
    (open-record c.self.inside (record_of c.self.inside) c.self.invariant.state (sym c.is_some.ensures ∙ c.if-is_some.false))

pub work-requires-clause-living : goal.work-requires-clause-living
work-requires-clause-living g c =
    let to : IsToBeTaken c.self.inside c.args.batch c.args.number =
    to-be-taken c.self.inside c.args.batch c.args.number c.self.invariant
    (subst (λ (v : PoolView). IsTakeable v.origin v.history c.args.number c.args.batch) (sym c.self.view_is) c.requires.takeable) in
    subst (λ (ss : List Registration). IsLiving ss c.args.number) (sym c.take_return_memory-memory.ensures.clauses) to.living

pub work-requires-clause-given : goal.work-requires-clause-given
work-requires-clause-given g c =
    let to : IsToBeTaken c.self.inside c.args.batch c.args.number =
    to-be-taken c.self.inside c.args.batch c.args.number c.self.invariant
    (subst (λ (v : PoolView). IsTakeable v.origin v.history c.args.number c.args.batch) (sym c.self.view_is) c.requires.takeable) in
    subst (λ (b : Batch). IsOfGiven c.args.number b.work) (sym c.push_return-work.ensures.batch) to.of_given

pub work-requires-clause-work : goal.work-requires-clause-work
work-requires-clause-work g c =
    let to : IsToBeTaken c.self.inside c.args.batch c.args.number =
    to-be-taken c.self.inside c.args.batch c.args.number c.self.invariant
    (subst (λ (v : PoolView). IsTakeable v.origin v.history c.args.number c.args.batch) (sym c.self.view_is) c.requires.takeable) in
    let bank_is : c.self.inside.table.bank ≡ c.args.bank.now = ap (λ (v : PoolView). v.bank) c.self.view_is ∙ c.requires.bank in
    let s : PoolRecord = without c.self.inside.options c.args.batch.job (record_of c.self.inside) in
    subst (λ (b : Batch). IsSomeWork c.args.bank.now c.self.inside.options.split c.take_return_memory-memory.new.proof c.args.number b.work c.in-Ok.prepared) (sym c.push_return-work.ensures.batch) (
      c.take_return_memory-memory.new.table,
      s,
      map (pair_of s) (ready s),
      work-of c.self.inside c.args.batch c.args.number c.args.bank.now c.take_return_memory-memory.new.table c.take_return_memory-memory.new.proof c.in-Ok.prepared to c.self.invariant bank_is
          c.take_return_memory-memory.ensures.knows c.take_return_memory-memory.ensures.clauses c.take_return_memory-memory.ensures.pairs c.take_return_memory-memory.ensures.steps c.take_return_memory-memory.ensures.ended c.take_return_memory-memory.ensures.splits c.take_return_memory-memory.ensures.asserting
          (c.in-Ok.ensures.prepared c.self.inside.options.split (length (record_of c.self.inside).parts) to.fit),
    )

pub invariant_of-self-2 : goal.invariant_of-self-2
invariant_of-self-2 g c =
    let to : IsToBeTaken c.self.inside c.args.batch c.args.number =
    to-be-taken c.self.inside c.args.batch c.args.number c.self.invariant
    (subst (λ (v : PoolView). IsTakeable v.origin v.history c.args.number c.args.batch) (sym c.self.view_is) c.requires.takeable) in
    let bank_is : c.self.inside.table.bank ≡ c.args.bank.now = ap (λ (v : PoolView). v.bank) c.self.view_is ∙ c.requires.bank in
    let r : PoolRecord = record_of c.self.inside in
    let s : PoolRecord = without c.self.inside.options c.args.batch.job r in
    let t : PoolRecord = worked c.self.inside.options to.given.number c.args.batch.work s in
    let pairs : List (ℕ × ℕ) = map (pair_of s) (ready s) in
    let table : Table = c.take_return_memory-memory.new.table in
    let many : c.len.result ≡ length c.self.inside.proof.notes.items =
    omega (arith, c.take_return_memory-memory.new.proof.notes.ok.0, ap length c.take_return_memory-memory.ensures.notes) in
    let moment : c.len-event.result ≡ s.events =
    c.len-event.ensures ∙ sym (event-count (origin_of c.self.inside) (events_of c.self.inside.history)) in
    let keys : keys_in c.take_return_memory-memory.new.counted ≡ s.counted = c.take_return_memory-memory.ensures.counted ∙ c.self.invariant.state.counted in
    let is : IsWorkOf c.args.bank.now table c.self.inside.options.split c.take_return_memory-memory.new.proof c.args.number c.push_return-work.result.work c.in-Ok.prepared pairs s =
    subst (λ (b : Batch). IsWorkOf c.args.bank.now table c.self.inside.options.split c.take_return_memory-memory.new.proof c.args.number b.work c.in-Ok.prepared pairs s) (sym c.push_return-work.ensures.batch)
    (work-of c.self.inside c.args.batch c.args.number c.args.bank.now c.take_return_memory-memory.new.table c.take_return_memory-memory.new.proof c.in-Ok.prepared to c.self.invariant bank_is
    c.take_return_memory-memory.ensures.knows c.take_return_memory-memory.ensures.clauses c.take_return_memory-memory.ensures.pairs c.take_return_memory-memory.ensures.steps c.take_return_memory-memory.ensures.ended c.take_return_memory-memory.ensures.splits c.take_return_memory-memory.ensures.asserting
    (c.in-Ok.ensures.prepared c.self.inside.options.split (length (record_of c.self.inside).parts) to.fit)) in
    let state : IsCountedStateOf c.args.bank.now table c.work.new.self (keys_in c.work.new.counted) t =
    subst (λ k. IsCountedStateOf c.args.bank.now table c.work.new.self (keys_in c.work.new.counted) (worked c.self.inside.options k c.args.batch.work s)) (sym to.same)
    (subst (λ (b : Batch). IsCountedStateOf c.args.bank.now table c.work.new.self (keys_in c.work.new.counted) (worked c.self.inside.options c.args.number b.work s)) c.push_return-work.ensures.batch
    (c.work.ensures.worked table s pairs moment is keys)) in
    let noted : NotesDeaths s t c.take_return_memory-memory.new.proof.notes.items c.work.new.self.notes.items =
    subst (λ k. NotesDeaths s (worked c.self.inside.options k c.args.batch.work s) c.take_return_memory-memory.new.proof.notes.items c.work.new.self.notes.items) (sym to.same)
    (subst (λ (b : Batch). NotesDeaths s (worked c.self.inside.options c.args.number b.work s) c.take_return_memory-memory.new.proof.notes.items c.work.new.self.notes.items) c.push_return-work.ensures.batch
    (c.work.ensures.noted table s pairs moment is keys)) in
    taken-pool c.self.inside _ c.args.batch to.given (heavy_keys_of c.args.batch.work) t c.self.invariant to.found
    (after-worked c.self.inside.options c.args.batch r to.given to.found
    (open-record c.self.inside r c.self.invariant.state (sym c.is_some.ensures ∙ c.if-is_some.false)))
    to.allowed
    (record {
      origin = refl;
      positions = refl;
      jobs = c.remove.ensures.entries;
      history = c.push_return-work.ensures.events;
      history_len = c.push_return-work.ensures.len;
      history_room = c.push_return-work.ensures.room;
      before = c.push_reserved.ensures.items ∙ ap (λ (k : ℕ). c.self.inside.notes_before.items ++ k ∷ []) many;
      before_len = c.push_reserved.ensures.len;
      before_room = c.push_reserved.ensures.capacity;
      solver = refl;
      last_job = refl;
      place = refl;
    })
    (worked-follows c.self.inside.options c.args.batch.job to.given.number c.args.batch.work r)
    (subst (λ (k : Bank). IsProofStateOf k table c.work.new.self t) (sym c.take_return_memory-memory.ensures.table) state.proof)
    state.keys
    c.in-Ok.ensures.set_aside
    (noted-since c.self.inside.options c.args.batch.job r t c.take_return_memory-memory.new.proof.notes.items c.work.new.self.notes.items c.self.inside.proof.notes.items noted
    c.take_return_memory-memory.ensures.notes)
    c.work.ensures.room.places.queue

pub returns-clause-history : goal.returns-clause-history
returns-clause-history g c = c.push_return-work.ensures.events ∙ ap (λ (v : PoolView). v.history ++ Return c.args.batch ∷ []) c.self.view_is
