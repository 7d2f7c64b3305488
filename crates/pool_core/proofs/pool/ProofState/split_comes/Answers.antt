use Rattle.std.proofs.Common.{◌≡◌, ℕ, suc, ◌+◌, ◌<◌, List, ◌++◌, map, length, get_or, refl, ap, sym, ◌∙◌, subst, arith}
use Rattle.std.specs.Prelude.{All}
use Rattle.std.proofs.lemmas.List.{length-map}
use Rattle.plain_types.specs.declared.sequence.NameLit.{NameLit}
use Rattle.plain_types.specs.Names.{opposite}
use Rattle.split_parts.specs.Tags.{tag_of}
use Rattle.pool_history.specs.Tags.{name_of_tag}
use Rattle.pool_core.specs.Splits.{HasPartRoom, split_view}
use Rattle.pool_core.specs.State.{IsProofStateOf}
use Rattle.pool_core.proofs.AboutReturns.SplitComingLemmas.{parts_now, split_record, split-asserted, split-comes-as, split-counts, split-lined, split-met, split-state, split-tags, split-told, split-within, tagged}
use Rattle.pool_core.proofs.AboutReturns.WholeComingLemmas.{room-registered}
use Rattle.pool_core.proofs.AboutSplits.PartedLemmas.{parts-unasserted}
use Rattle.pool_core.proofs.AboutSplits.SortedLemmas.{clause-room-less, sorted-count}
use Rattle.pool_core.proofs.pool.ProofState.split_comes.Goals as goal

pub define_parts-requires-clause-room : goal.define_parts-requires-clause-room
define_parts-requires-clause-room c =
    let counts = split-counts c.args.bank.now (c.requires.coming).0 (c.requires.coming).1 c.args.self.now (c.requires.coming).2 c.args.lines c.args.split
    (sym (c.requires.coming).3.state.ended ∙ c.requires.open) (c.requires.coming).3 c.place_steps.new.steps.items c.place_steps.ensures.steps in
    subst (λ (n : ℕ). HasPartRoom c.args.self.now.splits n) (counts.1 ∙ sym counts.0) c.requires.room.parts

pub define_parts-requires-clause-steps_room : goal.define_parts-requires-clause-steps_room
define_parts-requires-clause-steps_room c =
    let counts = split-counts c.args.bank.now (c.requires.coming).0 (c.requires.coming).1 c.args.self.now (c.requires.coming).2 c.args.lines c.args.split
    (sym (c.requires.coming).3.state.ended ∙ c.requires.open) (c.requires.coming).3 c.place_steps.new.steps.items c.place_steps.ensures.steps in
    let room = c.requires.room.steps in
    omega (arith, room, counts.0, counts.1, c.place_steps.ensures.len, c.place_steps.ensures.room)

pub define_parts-requires-clause-tags_room : goal.define_parts-requires-clause-tags_room
define_parts-requires-clause-tags_room c =
    let counts = split-counts c.args.bank.now (c.requires.coming).0 (c.requires.coming).1 c.args.self.now (c.requires.coming).2 c.args.lines c.args.split
    (sym (c.requires.coming).3.state.ended ∙ c.requires.open) (c.requires.coming).3 c.place_steps.new.steps.items c.place_steps.ensures.steps in
    let room = (c.requires.coming).3.form.tags_room in
    omega (arith, room, counts.0)

pub define_parts-requires-clause-told : goal.define_parts-requires-clause-told
define_parts-requires-clause-told c = (
  _,
  split-lined c.args.bank.now (c.requires.coming).0 (c.requires.coming).1 c.args.self.now (c.requires.coming).2 c.args.lines c.args.split
      (sym (c.requires.coming).3.state.ended ∙ c.requires.open) (c.requires.coming).3 c.place_steps.new.steps.items c.place_steps.ensures.steps,
)

pub add_assertions-requires-clause-tags : goal.add_assertions-requires-clause-tags
add_assertions-requires-clause-tags c =
    subst (λ (ts : List ℕ). All (λ tag. tag < length c.define_parts.new.self.parts.parts) ts) (sym c.deref.ensures.value)
    (split-asserted c.args.bank.now (c.requires.coming).0 (c.requires.coming).1 c.args.self.now (c.requires.coming).2 c.args.lines c.args.split
    (sym (c.requires.coming).3.state.ended ∙ c.requires.open) (c.requires.coming).3 c.place_steps.new.steps.items c.place_steps.ensures.steps
    (split_view c.define_parts.new.self) c.define_parts.new.steps.items c.define_parts.ensures.defined)

pub add_names-requires-clause-tags : goal.add_names-requires-clause-tags
add_names-requires-clause-tags c =
    subst (λ (ts : List ℕ). All (λ tag. tag < length c.define_parts.new.self.parts.parts) ts) (sym c.deref-2.ensures.value)
    (split-within c.args.bank.now (c.requires.coming).0 (c.requires.coming).1 c.args.self.now (c.requires.coming).2 c.args.lines c.args.split
    (sym (c.requires.coming).3.state.ended ∙ c.requires.open) (c.requires.coming).3 c.place_steps.new.steps.items c.place_steps.ensures.steps
    (split_view c.define_parts.new.self) c.define_parts.new.steps.items c.define_parts.ensures.defined c.define_parts.new.tags.items
    (split-tags c.args.bank.now (c.requires.coming).0 (c.requires.coming).1 c.args.self.now (c.requires.coming).2 c.args.lines c.args.split
    (sym (c.requires.coming).3.state.ended ∙ c.requires.open) (c.requires.coming).3 c.place_steps.new.steps.items c.place_steps.ensures.steps
    (split_view c.define_parts.new.self) c.define_parts.new.steps.items c.define_parts.ensures.defined c.define_parts.new.tags.items c.define_parts.ensures.tags))

pub add_names-requires-clause-told : goal.add_names-requires-clause-told
add_names-requires-clause-told c =
    split-told c.args.bank.now (c.requires.coming).0 (c.requires.coming).1 c.args.self.now (c.requires.coming).2 c.args.lines c.args.split
    (sym (c.requires.coming).3.state.ended ∙ c.requires.open) (c.requires.coming).3 c.place_steps.new.steps.items c.place_steps.ensures.steps
    (split_view c.define_parts.new.self) c.define_parts.new.steps.items c.define_parts.ensures.defined

pub add_names-requires-clause-names_room : goal.add_names-requires-clause-names_room
add_names-requires-clause-names_room c =
    let tags : length c.define_parts.new.tags.items ≡ length (parts_now c.args.bank.now (c.requires.coming).0 (c.requires.coming).1 c.args.self.now (c.requires.coming).2 c.args.lines c.args.split
    (sym (c.requires.coming).3.state.ended ∙ c.requires.open) (c.requires.coming).3 c.place_steps.new.steps.items c.place_steps.ensures.steps) =
    ap length (split-tags c.args.bank.now (c.requires.coming).0 (c.requires.coming).1 c.args.self.now (c.requires.coming).2 c.args.lines c.args.split
    (sym (c.requires.coming).3.state.ended ∙ c.requires.open) (c.requires.coming).3 c.place_steps.new.steps.items c.place_steps.ensures.steps
    (split_view c.define_parts.new.self) c.define_parts.new.steps.items c.define_parts.ensures.defined c.define_parts.new.tags.items c.define_parts.ensures.tags)
    ∙ length-map (parts_now c.args.bank.now (c.requires.coming).0 (c.requires.coming).1 c.args.self.now (c.requires.coming).2 c.args.lines c.args.split
    (sym (c.requires.coming).3.state.ended ∙ c.requires.open) (c.requires.coming).3 c.place_steps.new.steps.items c.place_steps.ensures.steps) (tag_of (tagged c.args.bank.now (c.requires.coming).0 (c.requires.coming).1 c.args.self.now (c.requires.coming).2 c.args.lines c.args.split
    (sym (c.requires.coming).3.state.ended ∙ c.requires.open) (c.requires.coming).3 c.place_steps.new.steps.items c.place_steps.ensures.steps).parts) in
    let room = (c.requires.coming).3.form.asserted.room in
    let many : length c.deref-2.result.now ≡ length c.define_parts.new.tags.items = ap length c.deref-2.ensures.value in
    let first : length c.deref.result.now ≡ length c.args.split.asserted.tags.items = ap length c.deref.ensures.value in
    omega (arith, room, tags, many, first, c.add_assertions.ensures.len, c.add_assertions.ensures.capacity)

pub add_names-requires-clause-lines_room : goal.add_names-requires-clause-lines_room
add_names-requires-clause-lines_room c =
    let tags : length c.define_parts.new.tags.items ≡ length (parts_now c.args.bank.now (c.requires.coming).0 (c.requires.coming).1 c.args.self.now (c.requires.coming).2 c.args.lines c.args.split
    (sym (c.requires.coming).3.state.ended ∙ c.requires.open) (c.requires.coming).3 c.place_steps.new.steps.items c.place_steps.ensures.steps) =
    ap length (split-tags c.args.bank.now (c.requires.coming).0 (c.requires.coming).1 c.args.self.now (c.requires.coming).2 c.args.lines c.args.split
    (sym (c.requires.coming).3.state.ended ∙ c.requires.open) (c.requires.coming).3 c.place_steps.new.steps.items c.place_steps.ensures.steps
    (split_view c.define_parts.new.self) c.define_parts.new.steps.items c.define_parts.ensures.defined c.define_parts.new.tags.items c.define_parts.ensures.tags)
    ∙ length-map (parts_now c.args.bank.now (c.requires.coming).0 (c.requires.coming).1 c.args.self.now (c.requires.coming).2 c.args.lines c.args.split
    (sym (c.requires.coming).3.state.ended ∙ c.requires.open) (c.requires.coming).3 c.place_steps.new.steps.items c.place_steps.ensures.steps) (tag_of (tagged c.args.bank.now (c.requires.coming).0 (c.requires.coming).1 c.args.self.now (c.requires.coming).2 c.args.lines c.args.split
    (sym (c.requires.coming).3.state.ended ∙ c.requires.open) (c.requires.coming).3 c.place_steps.new.steps.items c.place_steps.ensures.steps).parts) in
    let room = (c.requires.coming).3.form.definitions_room in
    let many : length c.deref-2.result.now ≡ length c.define_parts.new.tags.items = ap length c.deref-2.ensures.value in
    omega (arith, room, tags, many)

pub add_split-requires-clause-room : goal.add_split-requires-clause-room
add_split-requires-clause-room c =
    let counts = split-counts c.args.bank.now (c.requires.coming).0 (c.requires.coming).1 c.args.self.now (c.requires.coming).2 c.args.lines c.args.split
    (sym (c.requires.coming).3.state.ended ∙ c.requires.open) (c.requires.coming).3 c.place_steps.new.steps.items c.place_steps.ensures.steps in
    let tags : length c.define_parts.new.tags.items ≡ length (parts_now c.args.bank.now (c.requires.coming).0 (c.requires.coming).1 c.args.self.now (c.requires.coming).2 c.args.lines c.args.split
    (sym (c.requires.coming).3.state.ended ∙ c.requires.open) (c.requires.coming).3 c.place_steps.new.steps.items c.place_steps.ensures.steps) =
    ap length (split-tags c.args.bank.now (c.requires.coming).0 (c.requires.coming).1 c.args.self.now (c.requires.coming).2 c.args.lines c.args.split
    (sym (c.requires.coming).3.state.ended ∙ c.requires.open) (c.requires.coming).3 c.place_steps.new.steps.items c.place_steps.ensures.steps
    (split_view c.define_parts.new.self) c.define_parts.new.steps.items c.define_parts.ensures.defined c.define_parts.new.tags.items c.define_parts.ensures.tags)
    ∙ length-map (parts_now c.args.bank.now (c.requires.coming).0 (c.requires.coming).1 c.args.self.now (c.requires.coming).2 c.args.lines c.args.split
    (sym (c.requires.coming).3.state.ended ∙ c.requires.open) (c.requires.coming).3 c.place_steps.new.steps.items c.place_steps.ensures.steps) (tag_of (tagged c.args.bank.now (c.requires.coming).0 (c.requires.coming).1 c.args.self.now (c.requires.coming).2 c.args.lines c.args.split
    (sym (c.requires.coming).3.state.ended ∙ c.requires.open) (c.requires.coming).3 c.place_steps.new.steps.items c.place_steps.ensures.steps).parts) in
    let few =
    sorted-count c.args.split.asserted.names.items c.add_names.new.names.items c.deref-3.result.now
    (λ (tag : ℕ). opposite (name_of_tag c.define_parts.new.self.parts.parts tag)) c.args.split.asserted.tags.items
    (name_of_tag c.define_parts.new.self.parts.parts) c.define_parts.new.tags.items (c.deref-3.ensures.value ∙ c.sort_names.ensures)
    (c.add_names.ensures.names
    ∙ ap (λ (ts : List ℕ). c.add_assertions.new.names.items ++ map (name_of_tag c.define_parts.new.self.parts.parts) ts) c.deref-2.ensures.value
    ∙ ap (λ (ns : List NameLit). ns ++ map (name_of_tag c.define_parts.new.self.parts.parts) c.define_parts.new.tags.items)
    (c.add_assertions.ensures.names
    ∙ ap (λ (ts : List ℕ). c.args.split.asserted.names.items ++ map (λ (tag : ℕ). opposite (name_of_tag c.define_parts.new.self.parts.parts tag)) ts) c.deref.ensures.value))
    (ap length (c.requires.coming).3.form.asserted.names) in
    clause-room-less c.define_parts.new.self 1 1 (length c.deref-3.result.now) (length c.args.split.asserted.tags.items + length c.args.split.parts.clauses.items)
    (omega arith) (omega (arith, few, tags, counts.1))
    (c.define_parts.ensures.clause_room 1 (length c.args.split.asserted.tags.items + length c.args.split.parts.clauses.items) c.requires.room.names)

pub add_split-requires-clause-steps_room : goal.add_split-requires-clause-steps_room
add_split-requires-clause-steps_room c =
    let counts = split-counts c.args.bank.now (c.requires.coming).0 (c.requires.coming).1 c.args.self.now (c.requires.coming).2 c.args.lines c.args.split
    (sym (c.requires.coming).3.state.ended ∙ c.requires.open) (c.requires.coming).3 c.place_steps.new.steps.items c.place_steps.ensures.steps in
    let room = c.requires.room.steps in
    omega (arith, room, counts.0, counts.1, c.place_steps.ensures.len, c.place_steps.ensures.room, c.define_parts.ensures.steps_len, c.define_parts.ensures.steps_capacity)

pub register_parts-requires-clause-told : goal.register_parts-requires-clause-told
register_parts-requires-clause-told c =
    let coming = (c.requires.coming).3 in (
      (c.requires.coming).0,
      split_record c.args.bank.now (c.requires.coming).0 (c.requires.coming).1 c.args.self.now (c.requires.coming).2 c.args.lines c.args.split
          (sym (c.requires.coming).3.state.ended ∙ c.requires.open) (c.requires.coming).3 c.place_steps.new.steps.items c.place_steps.ensures.steps,
      parts_now c.args.bank.now (c.requires.coming).0 (c.requires.coming).1 c.args.self.now (c.requires.coming).2 c.args.lines c.args.split
          (sym (c.requires.coming).3.state.ended ∙ c.requires.open) (c.requires.coming).3 c.place_steps.new.steps.items c.place_steps.ensures.steps,
      parts-unasserted c.args.bank.now (c.requires.coming).0 (parts_now c.args.bank.now (c.requires.coming).0 (c.requires.coming).1 c.args.self.now (c.requires.coming).2 c.args.lines c.args.split
          (sym (c.requires.coming).3.state.ended ∙ c.requires.open) (c.requires.coming).3 c.place_steps.new.steps.items c.place_steps.ensures.steps) c.args.split.parts.keys.items c.args.split.parts.clauses.items coming.form.parts,
      split-met c.args.bank.now (c.requires.coming).0 (c.requires.coming).1 c.args.self.now (c.requires.coming).2 c.args.lines c.args.split
          (sym (c.requires.coming).3.state.ended ∙ c.requires.open) (c.requires.coming).3 c.place_steps.new.steps.items c.place_steps.ensures.steps,
      (split-tags c.args.bank.now (c.requires.coming).0 (c.requires.coming).1 c.args.self.now (c.requires.coming).2 c.args.lines c.args.split
          (sym (c.requires.coming).3.state.ended ∙ c.requires.open) (c.requires.coming).3 c.place_steps.new.steps.items c.place_steps.ensures.steps
          (split_view c.define_parts.new.self) c.define_parts.new.steps.items c.define_parts.ensures.defined c.define_parts.new.tags.items c.define_parts.ensures.tags),
      split-state c.args.bank.now (c.requires.coming).0 (c.requires.coming).1 c.args.self.now (c.requires.coming).2 c.args.lines c.args.split
          (sym (c.requires.coming).3.state.ended ∙ c.requires.open) (c.requires.coming).3 c.place_steps.new.steps.items c.place_steps.ensures.steps
          (split_view c.define_parts.new.self) c.define_parts.new.steps.items c.define_parts.ensures.defined c.define_parts.new.tags.items c.from_vec.result c.add_assertions.new.names.items c.add_names.new.names.items c.deref-3.result.now
          (split-tags c.args.bank.now (c.requires.coming).0 (c.requires.coming).1 c.args.self.now (c.requires.coming).2 c.args.lines c.args.split
          (sym (c.requires.coming).3.state.ended ∙ c.requires.open) (c.requires.coming).3 c.place_steps.new.steps.items c.place_steps.ensures.steps
          (split_view c.define_parts.new.self) c.define_parts.new.steps.items c.define_parts.ensures.defined c.define_parts.new.tags.items c.define_parts.ensures.tags)
          (c.add_assertions.ensures.names
          ∙ ap (λ (ts : List ℕ). c.args.split.asserted.names.items ++ map (λ (tag : ℕ). opposite (name_of_tag c.define_parts.new.self.parts.parts tag)) ts) c.deref.ensures.value)
          (c.add_names.ensures.names
          ∙ ap (λ (ts : List ℕ). c.add_assertions.new.names.items ++ map (name_of_tag c.define_parts.new.self.parts.parts) ts) c.deref-2.ensures.value)
          (c.deref-3.ensures.value ∙ c.sort_names.ensures) (c.from_vec.ensures ∙ c.add_names.ensures.lines
          ∙ ap (λ (ts : List ℕ). c.args.split.definitions.items ++ map (λ tag. get_or c.define_parts.new.self.definition_lines.items tag 0) ts) c.deref-2.ensures.value)
          _ _ (omega (arith, c.len.ensures, c.place_steps.new.steps.ok.0)) c.add_split.ensures.split refl refl refl refl,
    )

pub returns-clause-came : goal.returns-clause-came
returns-clause-came c = λ table on r coming.
    subst (IsProofStateOf c.args.bank.now table c.register_parts.new.self) (sym (split-comes-as c.args.bank.now table on c.args.self.now r c.args.lines c.args.split
    (sym coming.state.ended ∙ c.requires.open) coming c.place_steps.new.steps.items c.place_steps.ensures.steps))
    (c.register_parts.ensures.registered table (split_record c.args.bank.now table on c.args.self.now r c.args.lines c.args.split
    (sym coming.state.ended ∙ c.requires.open) coming c.place_steps.new.steps.items c.place_steps.ensures.steps)
    (parts_now c.args.bank.now table on c.args.self.now r c.args.lines c.args.split
    (sym coming.state.ended ∙ c.requires.open) coming c.place_steps.new.steps.items c.place_steps.ensures.steps)
    (parts-unasserted c.args.bank.now table (parts_now c.args.bank.now table on c.args.self.now r c.args.lines c.args.split
    (sym coming.state.ended ∙ c.requires.open) coming c.place_steps.new.steps.items c.place_steps.ensures.steps) c.args.split.parts.keys.items c.args.split.parts.clauses.items coming.form.parts)
    (split-met c.args.bank.now table on c.args.self.now r c.args.lines c.args.split
    (sym coming.state.ended ∙ c.requires.open) coming c.place_steps.new.steps.items c.place_steps.ensures.steps)
    (split-tags c.args.bank.now table on c.args.self.now r c.args.lines c.args.split
    (sym coming.state.ended ∙ c.requires.open) coming c.place_steps.new.steps.items c.place_steps.ensures.steps
    (split_view c.define_parts.new.self) c.define_parts.new.steps.items c.define_parts.ensures.defined c.define_parts.new.tags.items c.define_parts.ensures.tags)
    (split-state c.args.bank.now table on c.args.self.now r c.args.lines c.args.split
    (sym coming.state.ended ∙ c.requires.open) coming c.place_steps.new.steps.items c.place_steps.ensures.steps
    (split_view c.define_parts.new.self) c.define_parts.new.steps.items c.define_parts.ensures.defined c.define_parts.new.tags.items c.from_vec.result c.add_assertions.new.names.items c.add_names.new.names.items c.deref-3.result.now
    (split-tags c.args.bank.now table on c.args.self.now r c.args.lines c.args.split
    (sym coming.state.ended ∙ c.requires.open) coming c.place_steps.new.steps.items c.place_steps.ensures.steps
    (split_view c.define_parts.new.self) c.define_parts.new.steps.items c.define_parts.ensures.defined c.define_parts.new.tags.items c.define_parts.ensures.tags)
    (c.add_assertions.ensures.names
    ∙ ap (λ (ts : List ℕ). c.args.split.asserted.names.items ++ map (λ (tag : ℕ). opposite (name_of_tag c.define_parts.new.self.parts.parts tag)) ts) c.deref.ensures.value)
    (c.add_names.ensures.names
    ∙ ap (λ (ts : List ℕ). c.add_assertions.new.names.items ++ map (name_of_tag c.define_parts.new.self.parts.parts) ts) c.deref-2.ensures.value)
    (c.deref-3.ensures.value ∙ c.sort_names.ensures) (c.from_vec.ensures ∙ c.add_names.ensures.lines
    ∙ ap (λ (ts : List ℕ). c.args.split.definitions.items ++ map (λ tag. get_or c.define_parts.new.self.definition_lines.items tag 0) ts) c.deref-2.ensures.value)
    _ _ (omega (arith, c.len.ensures, c.place_steps.new.steps.ok.0)) c.add_split.ensures.split refl refl refl refl))

pub returns-clause-room : goal.returns-clause-room
returns-clause-room c = λ d deaths enough.
    let counts = split-counts c.args.bank.now (c.requires.coming).0 (c.requires.coming).1 c.args.self.now (c.requires.coming).2 c.args.lines c.args.split
    (sym (c.requires.coming).3.state.ended ∙ c.requires.open) (c.requires.coming).3 c.place_steps.new.steps.items c.place_steps.ensures.steps in
    let tags : length c.define_parts.new.tags.items ≡ length (parts_now c.args.bank.now (c.requires.coming).0 (c.requires.coming).1 c.args.self.now (c.requires.coming).2 c.args.lines c.args.split
    (sym (c.requires.coming).3.state.ended ∙ c.requires.open) (c.requires.coming).3 c.place_steps.new.steps.items c.place_steps.ensures.steps) =
    ap length (split-tags c.args.bank.now (c.requires.coming).0 (c.requires.coming).1 c.args.self.now (c.requires.coming).2 c.args.lines c.args.split
    (sym (c.requires.coming).3.state.ended ∙ c.requires.open) (c.requires.coming).3 c.place_steps.new.steps.items c.place_steps.ensures.steps
    (split_view c.define_parts.new.self) c.define_parts.new.steps.items c.define_parts.ensures.defined c.define_parts.new.tags.items c.define_parts.ensures.tags)
    ∙ length-map (parts_now c.args.bank.now (c.requires.coming).0 (c.requires.coming).1 c.args.self.now (c.requires.coming).2 c.args.lines c.args.split
    (sym (c.requires.coming).3.state.ended ∙ c.requires.open) (c.requires.coming).3 c.place_steps.new.steps.items c.place_steps.ensures.steps) (tag_of (tagged c.args.bank.now (c.requires.coming).0 (c.requires.coming).1 c.args.self.now (c.requires.coming).2 c.args.lines c.args.split
    (sym (c.requires.coming).3.state.ended ∙ c.requires.open) (c.requires.coming).3 c.place_steps.new.steps.items c.place_steps.ensures.steps).parts) in
    let few =
    sorted-count c.args.split.asserted.names.items c.add_names.new.names.items c.deref-3.result.now
    (λ (tag : ℕ). opposite (name_of_tag c.define_parts.new.self.parts.parts tag)) c.args.split.asserted.tags.items
    (name_of_tag c.define_parts.new.self.parts.parts) c.define_parts.new.tags.items (c.deref-3.ensures.value ∙ c.sort_names.ensures)
    (c.add_names.ensures.names
    ∙ ap (λ (ts : List ℕ). c.add_assertions.new.names.items ++ map (name_of_tag c.define_parts.new.self.parts.parts) ts) c.deref-2.ensures.value
    ∙ ap (λ (ns : List NameLit). ns ++ map (name_of_tag c.define_parts.new.self.parts.parts) c.define_parts.new.tags.items)
    (c.add_assertions.ensures.names
    ∙ ap (λ (ts : List ℕ). c.args.split.asserted.names.items ++ map (λ (tag : ℕ). opposite (name_of_tag c.define_parts.new.self.parts.parts tag)) ts) c.deref.ensures.value))
    (ap length (c.requires.coming).3.form.asserted.names) in
    room-registered (record c.args.self.now { steps = c.add_split.new.steps; splits = c.add_split.new.self }) c.register_parts.new.self d deaths c.register_parts.ensures.rest
    (c.register_parts.ensures.room d.clauses d.tags
    (record { register = enough.places.register; queue = enough.places.queue; index = enough.places.index }))
    (let room = enough.steps in
    omega (
      arith,
      room,
      counts.0,
      counts.1,
      c.place_steps.ensures.len,
      c.place_steps.ensures.room,
      c.define_parts.ensures.steps_len,
      c.define_parts.ensures.steps_capacity,
      c.add_split.ensures.steps_len,
      c.add_split.ensures.steps_capacity,
    ))
    (c.add_split.ensures.parts d.parts
    (c.define_parts.ensures.part_room d.parts (subst (λ (n : ℕ). HasPartRoom c.args.self.now.splits (n + d.parts)) (counts.1 ∙ sym counts.0) enough.parts)))
    (c.add_split.ensures.room d.splits d.names
    (clause-room-less c.define_parts.new.self (suc d.splits) (1 + d.splits) (length c.deref-3.result.now + d.names)
    ((length c.args.split.asserted.tags.items + length c.args.split.parts.clauses.items) + d.names)
    (omega arith) (omega (arith, few, tags, counts.1))
    (c.define_parts.ensures.clause_room (1 + d.splits) ((length c.args.split.asserted.tags.items + length c.args.split.parts.clauses.items) + d.names) enough.names)))
    enough.notes
