use Rattle.std.proofs.Common.{ℕ, suc, ◌+◌, ◌<◌, ◌++◌, List, map, length, refl, ap, sym, ◌∙◌, subst, arith}
use Rattle.std.specs.Prelude.{All}
use Rattle.plain_types.specs.Names.{opposite}
use Rattle.pool_history.specs.Tags.{name_of_tag}
use Rattle.pool_core.proofs.AboutReturns.SplitComingLemmas.{asserted-within, contradiction-came}
use Rattle.pool_core.proofs.AboutSplits.SortedLemmas.{asserted-count, clause-room-less, part-room-less}
use Rattle.pool_core.proofs.AboutReturns.WholeComingLemmas.{fewer-places}
use Rattle.pool_core.proofs.pool.ProofState.contradiction_comes.Goals as goal

pub add_assertions-requires-clause-tags : goal.add_assertions-requires-clause-tags
add_assertions-requires-clause-tags c =
    let r = (c.requires.coming).2 in
    let coming = (c.requires.coming).3 in
    subst (λ (ts : List ℕ). All (λ tag. tag < length c.args.self.now.splits.parts.parts) ts) (sym c.deref.ensures.value)
    (asserted-within c.args.bank.now (c.requires.coming).0 c.args.self.now r (length r.parts) c.args.lines coming.clause 0 c.args.asserted refl coming.lead coming.form.tags
    coming.state)

pub add_clause-requires : goal.add_clause-requires
add_clause-requires c =
    let few =
    asserted-count c.args.asserted.names.items c.add_assertions.new.names.items c.deref-2.result.now
    (λ (tag : ℕ). opposite (name_of_tag c.args.self.now.splits.parts.parts tag)) c.args.asserted.tags.items (c.deref-2.ensures.value ∙ c.sort_names.ensures)
    (c.add_assertions.ensures.names
    ∙ ap (λ (ts : List ℕ). c.args.asserted.names.items ++ map (λ (tag : ℕ). opposite (name_of_tag c.args.self.now.splits.parts.parts tag)) ts) c.deref.ensures.value)
    (ap length (c.requires.coming).3.form.tags.names) in
    record { room = clause-room-less c.args.self.now.splits 1 1 (length c.deref-2.result.now) (length c.args.asserted.tags.items) (omega arith) few c.requires.room.names }

pub returns-clause-came : goal.returns-clause-came
returns-clause-came c = λ table split r coming.
    contradiction-came c.args.bank.now table split c.args.self.now _ r c.args.lines c.args.asserted c.place_steps.new.steps.items c.add_assertions.new.names.items
    c.deref-2.result.now _ (sym coming.state.ended ∙ c.requires.open) coming c.place_steps.ensures.steps
    (c.add_assertions.ensures.names
    ∙ ap (λ (ts : List ℕ). c.args.asserted.names.items ++ map (λ (tag : ℕ). opposite (name_of_tag c.args.self.now.splits.parts.parts tag)) ts) c.deref.ensures.value) (c.deref-2.ensures.value ∙ c.sort_names.ensures)
    (omega (arith, c.len.ensures, c.place_steps.new.steps.ok.0)) c.add_clause.ensures.added refl refl refl refl refl

pub returns-clause-room : goal.returns-clause-room
returns-clause-room c = λ d deaths enough.
    let few =
    asserted-count c.args.asserted.names.items c.add_assertions.new.names.items c.deref-2.result.now
    (λ (tag : ℕ). opposite (name_of_tag c.args.self.now.splits.parts.parts tag)) c.args.asserted.tags.items (c.deref-2.ensures.value ∙ c.sort_names.ensures)
    (c.add_assertions.ensures.names
    ∙ ap (λ (ts : List ℕ). c.args.asserted.names.items ++ map (λ (tag : ℕ). opposite (name_of_tag c.args.self.now.splits.parts.parts tag)) ts) c.deref.ensures.value)
    (ap length (c.requires.coming).3.form.tags.names) in
    record {
      places =
          let places = fewer-places c.args.self.now (0 + d.clauses) (0 + d.tags) d.clauses d.tags (omega arith) (omega arith) enough.places in
          record { register = places.register; queue = places.queue; index = places.index };
      steps = let room = enough.steps in omega (arith, room, c.place_steps.ensures.len, c.place_steps.ensures.room);
      parts = c.add_clause.ensures.parts d.parts (part-room-less c.args.self.now.splits d.parts (0 + d.parts) (omega arith) enough.parts);
      names =
          c.add_clause.ensures.room d.splits d.names
          (clause-room-less c.args.self.now.splits (suc d.splits) (1 + d.splits) (length c.deref-2.result.now + d.names) (length c.args.asserted.tags.items + d.names)
          (omega arith) (omega (arith, few)) enough.names);
      notes = enough.notes;
    }
