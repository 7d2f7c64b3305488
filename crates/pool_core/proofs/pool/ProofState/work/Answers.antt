use Rattle.std.proofs.Common.{ℕ, List, [], ◌∷◌, length, refl, sym, ◌∙◌, subst, arith}
use Rattle.std.specs.Prelude.{fold, option_to_list}
use Rattle.std.specs.Vec.Iter.{into_iter_items}
use Rattle.std.proofs.lemmas.Option.{slice_get_within}
use Rattle.pool_core.specs.CountedList.{keys_in}
use Rattle.pool_history.specs.Counting.{counts, keys_of, lines_of_entries}
use Rattle.pool_core.specs.Demanded.{no_demand, plus, total}
use Rattle.pool_core.specs.Placing.{AreInterned, IsCountedStateOf, NotesDeaths, HasRoom, IsOfGiven, brought, entries_of, lines_of_removals, with_queue}
use Rattle.pool_history.specs.Record.{PoolRecord}
use Rattle.pool_history.specs.Returning.{removals_of, dies, becomes_active, sets_aside, proposed, worked}
use Rattle.pool_history.specs.declared.batch.Work.{Work}
use Rattle.pool_core.specs.declared.interning.Interned.{Interned}
use Rattle.pool_core.proofs.AboutReturns.ArrivalLemmas.{recounted, less-first, less-nothing, room-for-less}
use Rattle.pool_core.proofs.AboutReturns.InternedLemmas.{all-more-met}
use Rattle.pool_history.proofs.AboutCounting.DeathLemmas.{counts-keeps}
use Rattle.pool_core.proofs.AboutReturns.ProposedLemmas.{counts-longer, gone-queue, lone-result, room-gone, room-of-one, notes-one, notes-then, notes-counted}
use Rattle.pool_core.proofs.pool.ProofState.work.Goals as goal

pub replace-requires-clause-interned : goal.replace-requires-clause-interned
replace-requires-clause-interned c =
    let some = c.requires.work in
    let r : PoolRecord = record some.1 { events = c.args.event } in (
      some.0,
      dies c.in-Gone.removal.victim c.in-Gone.removal.justifiers r,
      lone-result c.args.bank.now some.0 c.args.options.split (length (some.1).parts) c.in-Gone.removal (into_iter_items c.into_iter-replacements.result) (into_iter_items c.next_result-interned.new.results) c.next_result-interned.result
          c.next_result-interned.ensures.next
          (subst (λ (xs : List Interned). AreInterned c.args.bank.now some.0 c.args.options.split (length (some.1).parts) (lines_of_removals (c.in-Gone.removal ∷ [])) xs) (sym c.into_iter-replacements.ensures.rest)
          (subst (λ (w : Work). AreInterned c.args.bank.now some.0 c.args.options.split (length (some.1).parts) (lines_of_removals (removals_of w)) c.args.prepared.removals.clauses.items) c.in-Gone.is some.3.in_bank.removals.interned)),
      c.die.ensures.died c.args.bank.now some.0 r c.in-Gone.removal.justifiers some.2 refl
          (gone-queue c.in-Gone.removal.victim c.args.number some.2 c.args.self.now.queue.pairs (subst (IsOfGiven c.args.number) c.in-Gone.is c.requires.given) some.3.queue)
          (recounted c.args.bank.now some.0 (with_queue some.2 c.args.self.now) some.1 some.1.counted some.1.set_aside c.args.event some.3.proof),
    )

pub replace-requires-clause-room : goal.replace-requires-clause-room
replace-requires-clause-room c =
    room-of-one c.die.new.self c.next_result-interned.result (total (into_iter_items c.next_result-interned.new.results)) 0
    (c.die.ensures.room (plus (total (option_to_list c.next_result-interned.result)) (total (into_iter_items c.next_result-interned.new.results))) 0
    (room-gone c.args.self.now (total c.args.prepared.entries.clauses.items) c.next_result-interned.result c.args.prepared.removals.clauses.items
    (into_iter_items c.next_result-interned.new.results) 1 (sym c.into_iter-replacements.ensures.rest ∙ c.next_result-interned.ensures.taken)
    (subst (λ (w : Work). HasRoom c.args.self.now (brought c.args.prepared) (length (removals_of w))) c.in-Gone.is c.requires.room)))

pub returns-in-Gone-clause-worked : goal.returns-in-Gone-clause-worked
returns-in-Gone-clause-worked c = λ table r pairs moment is counted.
    subst (λ (w : Work). IsCountedStateOf c.args.bank.now table c.replace.new.self (keys_in c.replace.new.counted) (worked c.args.options c.args.number w r)) (sym c.in-Gone.is)
    (c.replace.ensures.replaced table (dies c.in-Gone.removal.victim c.in-Gone.removal.justifiers r)
    (lone-result c.args.bank.now table c.args.options.split (length r.parts) c.in-Gone.removal (into_iter_items c.into_iter-replacements.result) (into_iter_items c.next_result-interned.new.results) c.next_result-interned.result
    c.next_result-interned.ensures.next
    (subst (λ (xs : List Interned). AreInterned c.args.bank.now table c.args.options.split (length r.parts) (lines_of_removals (c.in-Gone.removal ∷ [])) xs) (sym c.into_iter-replacements.ensures.rest)
    (subst (λ (w : Work). AreInterned c.args.bank.now table c.args.options.split (length r.parts) (lines_of_removals (removals_of w)) c.args.prepared.removals.clauses.items) c.in-Gone.is is.in_bank.removals.interned)))
    (record {
      proof =
          c.die.ensures.died c.args.bank.now table r c.in-Gone.removal.justifiers pairs moment
          (gone-queue c.in-Gone.removal.victim c.args.number pairs c.args.self.now.queue.pairs (subst (IsOfGiven c.args.number) c.in-Gone.is c.requires.given) is.queue) is.proof;
      keys = counted;
    }))

pub returns-in-Gone-clause-noted : goal.returns-in-Gone-clause-noted
returns-in-Gone-clause-noted c = λ table r pairs moment is counted.
    subst (λ (w : Work). NotesDeaths r (worked c.args.options c.args.number w r) c.args.self.now.notes.items c.replace.new.self.notes.items) (sym c.in-Gone.is)
    (notes-one c.args.options c.in-Gone.removal.victim c.in-Gone.removal.justifiers c.in-Gone.removal.fate r c.args.self.now.notes.items c.die.new.self.notes.items
    c.replace.new.self.notes.items c.die.ensures.notes c.replace.ensures.notes)

pub returns-in-Gone-clause-room : goal.returns-in-Gone-clause-room
returns-in-Gone-clause-room c =
    let rest : List Interned = into_iter_items c.next_result-interned.new.results in
    room-for-less c.replace.new.self no_demand (total rest) 0 0 (less-nothing (total rest)) (omega arith)
    (c.replace.ensures.room (total rest) 0
    (c.die.ensures.room (plus (total (option_to_list c.next_result-interned.result)) (total rest)) 0
    (room-gone c.args.self.now (total c.args.prepared.entries.clauses.items) c.next_result-interned.result c.args.prepared.removals.clauses.items
    rest 1 (sym c.into_iter-replacements.ensures.rest ∙ c.next_result-interned.ensures.taken)
    (subst (λ (w : Work). HasRoom c.args.self.now (brought c.args.prepared) (length (removals_of w))) c.in-Gone.is c.requires.room))))

pub finish-requires : goal.finish-requires
finish-requires c = record {
  there = slice_get_within c.args.self.now.register.clauses c.args.number (c.requires.living).0 (c.requires.living).1;
}

pub count_entries-requires-clause-results : goal.count_entries-requires-clause-results
count_entries-requires-clause-results c =
    let some = c.requires.work in (
      some.0,
      becomes_active c.args.number some.1,
      subst (λ (w : Work). AreInterned c.args.bank.now some.0 c.args.options.split (length (some.1).parts) (lines_of_entries (entries_of w)) c.args.prepared.entries.clauses.items) c.in-Met.is some.3.in_bank.entries.interned,
      c.finish.ensures.finished c.args.bank.now some.0 some.1 some.2 some.3.queue some.3.proof,
    )

pub count_entries-requires-clause-room : goal.count_entries-requires-clause-room
count_entries-requires-clause-room c =
    let n : ℕ = length c.in-Met.removals in
    room-for-less c.finish.new.self (total c.args.prepared.entries.clauses.items) (brought c.args.prepared) 0 n
    (less-first (total c.args.prepared.entries.clauses.items) (total c.args.prepared.removals.clauses.items)) (omega arith)
    (c.finish.ensures.room (brought c.args.prepared) n
    (subst (λ (w : Work). HasRoom c.args.self.now (brought c.args.prepared) (length (removals_of w))) c.in-Met.is c.requires.room))

pub propose-requires-clause-results : goal.propose-requires-clause-results
propose-requires-clause-results c =
    let some = c.requires.work in
    let r : PoolRecord = record some.1 { counted = (keys_in c.args.counted.now) } in
    let s : PoolRecord = sets_aside c.in-Met.entries (becomes_active c.args.number r) in (
      some.0,
      counts c.args.options (keys_of c.in-Met.entries) (lines_of_entries c.in-Met.entries) s,
      all-more-met c.args.bank.now some.0 c.args.options.split (length (some.1).parts)
          (length (counts c.args.options (keys_of c.in-Met.entries) (lines_of_entries c.in-Met.entries) s).parts) (lines_of_removals c.in-Met.removals)
          c.args.prepared.removals.clauses.items (counts-longer c.args.options (keys_of c.in-Met.entries) (lines_of_entries c.in-Met.entries) s)
          (subst (λ (w : Work). AreInterned c.args.bank.now some.0 c.args.options.split (length (some.1).parts) (lines_of_removals (removals_of w)) c.args.prepared.removals.clauses.items) c.in-Met.is some.3.in_bank.removals.interned),
      (c.count_entries.ensures.counted some.0 s
          (subst (λ (w : Work). AreInterned c.args.bank.now some.0 c.args.options.split (length (some.1).parts) (lines_of_entries (entries_of w)) c.args.prepared.entries.clauses.items) c.in-Met.is some.3.in_bank.entries.interned)
          (record {
            proof =
                recounted c.args.bank.now some.0 c.finish.new.self (becomes_active c.args.number some.1) s.counted s.set_aside s.events
                (c.finish.ensures.finished c.args.bank.now some.0 some.1 some.2 some.3.queue some.3.proof);
            keys = refl;
          })).proof,
    )

pub propose-requires-clause-room : goal.propose-requires-clause-room
propose-requires-clause-room c =
    let n : ℕ = length c.in-Met.removals in
    c.count_entries.ensures.room (total c.args.prepared.removals.clauses.items) n
    (c.finish.ensures.room (brought c.args.prepared) n
    (subst (λ (w : Work). HasRoom c.args.self.now (brought c.args.prepared) (length (removals_of w))) c.in-Met.is c.requires.room))

pub returns-clause-worked : goal.returns-clause-worked
returns-clause-worked c = λ table r pairs moment is counted.
    let s : PoolRecord = sets_aside c.in-Met.entries (becomes_active c.args.number r) in
    let t : PoolRecord = counts c.args.options (keys_of c.in-Met.entries) (lines_of_entries c.in-Met.entries) s in
    subst (λ (w : Work). IsCountedStateOf c.args.bank.now table c.propose.new.self (keys_in c.propose.new.counted) (worked c.args.options c.args.number w r)) (sym c.in-Met.is)
    (c.propose.ensures.proposed table t
    (moment ∙ sym (counts-keeps c.args.options (keys_of c.in-Met.entries) (lines_of_entries c.in-Met.entries) s).events)
    (all-more-met c.args.bank.now table c.args.options.split (length r.parts) (length t.parts) (lines_of_removals c.in-Met.removals)
    c.args.prepared.removals.clauses.items (counts-longer c.args.options (keys_of c.in-Met.entries) (lines_of_entries c.in-Met.entries) s)
    (subst (λ (w : Work). AreInterned c.args.bank.now table c.args.options.split (length r.parts) (lines_of_removals (removals_of w)) c.args.prepared.removals.clauses.items) c.in-Met.is is.in_bank.removals.interned)) (c.count_entries.ensures.counted table s
    (subst (λ (w : Work). AreInterned c.args.bank.now table c.args.options.split (length r.parts) (lines_of_entries (entries_of w)) c.args.prepared.entries.clauses.items) c.in-Met.is is.in_bank.entries.interned)
    (record {
      proof =
          recounted c.args.bank.now table c.finish.new.self (becomes_active c.args.number r) s.counted s.set_aside s.events
          (c.finish.ensures.finished c.args.bank.now table r pairs is.queue is.proof);
      keys = counted;
    })))

pub returns-clause-noted : goal.returns-clause-noted
returns-clause-noted c = λ table r pairs moment is counted.
    let s : PoolRecord = sets_aside c.in-Met.entries (becomes_active c.args.number r) in
    let t : PoolRecord = counts c.args.options (keys_of c.in-Met.entries) (lines_of_entries c.in-Met.entries) s in
    let first : NotesDeaths s t c.args.self.now.notes.items c.count_entries.new.self.notes.items =
    notes-counted c.args.options (keys_of c.in-Met.entries) (lines_of_entries c.in-Met.entries) s c.args.self.now.notes.items c.count_entries.new.self.notes.items
    (c.count_entries.ensures.notes ∙ c.finish.ensures.notes) in
    subst (λ (w : Work). NotesDeaths r (worked c.args.options c.args.number w r) c.args.self.now.notes.items c.propose.new.self.notes.items) (sym c.in-Met.is)
    (notes-then r t (fold (proposed c.args.options) t c.in-Met.removals) c.args.self.now.notes.items c.count_entries.new.self.notes.items c.propose.new.self.notes.items
    (record { deaths = first.deaths; died = first.died; noted = first.noted })
    (c.propose.ensures.noted table t
    (moment ∙ sym (counts-keeps c.args.options (keys_of c.in-Met.entries) (lines_of_entries c.in-Met.entries) s).events)
    (all-more-met c.args.bank.now table c.args.options.split (length r.parts) (length t.parts) (lines_of_removals c.in-Met.removals)
    c.args.prepared.removals.clauses.items (counts-longer c.args.options (keys_of c.in-Met.entries) (lines_of_entries c.in-Met.entries) s)
    (subst (λ (w : Work). AreInterned c.args.bank.now table c.args.options.split (length r.parts) (lines_of_removals (removals_of w)) c.args.prepared.removals.clauses.items) c.in-Met.is is.in_bank.removals.interned)) (c.count_entries.ensures.counted table s
    (subst (λ (w : Work). AreInterned c.args.bank.now table c.args.options.split (length r.parts) (lines_of_entries (entries_of w)) c.args.prepared.entries.clauses.items) c.in-Met.is is.in_bank.entries.interned)
    (record {
      proof =
          recounted c.args.bank.now table c.finish.new.self (becomes_active c.args.number r) s.counted s.set_aside s.events
          (c.finish.ensures.finished c.args.bank.now table r pairs is.queue is.proof);
      keys = counted;
    }))))
