use Rattle.std.proofs.Common.{◌≡◌, ℕ, ◌+◌, ◌<◌, ◌≤◌, ◌^◌, Bool, true, List, [], ◌∷◌, ◌++◌, map, length, vec_len, append-nil, append_assoc, refl, ap, ap₂, sym, ◌∙◌, arith}
use Rattle.std.specs.Prelude.{slice_get}
use Rattle.std.specs.List.{AllByRecursion, list_all}
use Rattle.std.specs.Vec.Iter.{into_iter_items}
use Rattle.std.proofs.lemmas.Bool.{and_parts}
use Rattle.std.proofs.lemmas.List.{map-append, length-append}
use Rattle.kernel_steps.specs.Lines.{is_plain_step, step_parents}
use Rattle.kernel_steps.specs.declared.step.Step.{Step}
use Rattle.kernel_steps.specs.declared.step.Line.{Line}
use Rattle.kernel_steps.specs.declared.step.TheConstants.{CLAUSE_NUMBERS}
use Rattle.pool_history.specs.Lines.{line_number, with_parents}
use Rattle.pool_core.specs.Placing.{HasParentsBelow}
use Rattle.pool_core.specs.Started.{registered_at}
use Rattle.pool_history.proofs.AboutRecords.EditLemmas.{get-middle}
use Rattle.pool_history.proofs.AboutRecords.ItemLemmas.{all-at}
use Rattle.pool_core.proofs.placing.place_steps.Goals as goal

nothing-left : (ls : List Line) → length ls ≡ 0 → ls ≡ []
nothing-left [] none = refl
nothing-left (l ∷ ls) none = absurd (omega (arith, none))

below-sum : (first bound : ℕ) (ns : List ℕ) → first + bound ≤ 2 ^ 64 → AllByRecursion (λ n. n < bound) ns → AllByRecursion (λ n. first + n < 2 ^ 64) ns
below-sum first bound [] small all = tt
below-sum first bound (n ∷ ns) small all = (let below = all.0 in omega (arith, below, small), below-sum first bound ns small all.1)

pub loop-line-init : goal.loop-line-init
loop-line-init c = record {
  steps = sym (append-nil c.args.steps.now.items);
  len = omega arith;
  room = refl;
  rest = c.into_iter-line-iterator.ensures.into_iter_gives.0 ∙ c.into_vec-line-items.ensures;
}

-- what holds of all elements holds of one in the middle
of-middle : {X : Type 0} (p : X → Bool) (xs : List X) (x : X) (ys : List X) → list_all p (xs ++ x ∷ ys) ≡ true → p x ≡ true
of-middle p [] x ys all = (and_parts (p x) (list_all p ys) all).0
of-middle p (z ∷ zs) x ys all = of-middle p zs x ys (and_parts (p z) (list_all p (zs ++ x ∷ ys)) all).1

pub placed-requires-clause-plain : goal.placed-requires-clause-plain
placed-requires-clause-plain c =
    let whole : c.loop-line.yielded ++ c.in-Some.line ∷ into_iter_items c.next.new.self ≡ c.args.lines =
    ap (λ ls. c.loop-line.yielded ++ ls) (sym c.in-Some.ensures.steps.0) ∙ c.loop-line.invariant.rest in
    of-middle (λ (l : Line). is_plain_step l.step) c.loop-line.yielded c.in-Some.line (into_iter_items c.next.new.self)
    (ap (λ ls. list_all (λ (l : Line). is_plain_step l.step) ls) whole ∙ c.requires.plain)

pub placed-requires-clause-numbers : goal.placed-requires-clause-numbers
placed-requires-clause-numbers c =
    let whole : c.loop-line.yielded ++ c.in-Some.line ∷ into_iter_items c.next.new.self ≡ c.args.lines =
    ap (λ ls. c.loop-line.yielded ++ ls) (sym c.in-Some.ensures.steps.0) ∙ c.loop-line.invariant.rest in
    let here : HasParentsBelow (CLAUSE_NUMBERS + length c.args.lines) c.in-Some.line =
    all-at (HasParentsBelow (CLAUSE_NUMBERS + length c.args.lines)) c.args.lines (length c.loop-line.yielded) c.in-Some.line c.requires.parents
    (ap (λ ls. slice_get ls (length c.loop-line.yielded)) (sym whole) ∙ get-middle c.loop-line.yielded c.in-Some.line (into_iter_items c.next.new.self)) in
    let room = c.requires.room in
    let first = c.len-first.ensures in
    below-sum c.len-first.result (CLAUSE_NUMBERS + length c.args.lines) (step_parents c.in-Some.line.step)
    (omega (arith, room, first, c.args.steps.now.ok.0, c.args.steps.now.ok.1, c.args.steps.now.small)) here

pub push_reserved-requires : goal.push_reserved-requires
push_reserved-requires c =
    let rest = ap (λ ls. length ls) (sym c.loop-line.invariant.rest) in
    let more : length (c.loop-line.yielded ++ into_iter_items c.loop-line.line-iterator) ≡ length c.loop-line.yielded + length (into_iter_items c.loop-line.line-iterator) =
    length-append c.loop-line.yielded (into_iter_items c.loop-line.line-iterator) in
    let some : length (into_iter_items c.loop-line.line-iterator) ≡ length (c.in-Some.line ∷ into_iter_items c.next.new.self) = ap length c.in-Some.ensures.steps.0 in
    let room = c.requires.room in
    omega (arith, rest, more, some, room, c.loop-line.invariant.len, c.loop-line.invariant.room)

pub loop-line-preserved : goal.loop-line-preserved
loop-line-preserved c =
    let first : c.len-first.result ≡ length c.args.steps.now.items = omega (arith, c.len-first.ensures, c.args.steps.now.ok.0) in
    let f : ℕ → Line → Step = λ n d. with_parents (line_number (map registered_at c.args.register.now.clauses) n) d.step in
    record {
      steps =
          c.push_reserved.ensures.items
          ∙ ap₂ (λ (xs : List Step) (x : Step). xs ++ x ∷ []) c.loop-line.invariant.steps (c.placed.ensures ∙ ap (λ n. f n c.in-Some.line) first)
          ∙ append_assoc c.args.steps.now.items (map (f (length c.args.steps.now.items)) c.loop-line.yielded) (f (length c.args.steps.now.items) c.in-Some.line ∷ [])
          ∙ ap (λ (xs : List Step). c.args.steps.now.items ++ xs) (sym (map-append (f (length c.args.steps.now.items)) c.loop-line.yielded (c.in-Some.line ∷ [])));
      len =
          let more : length (c.loop-line.yielded ++ c.in-Some.line ∷ []) ≡ length c.loop-line.yielded + 1 = length-append c.loop-line.yielded (c.in-Some.line ∷ []) in
          omega (arith, more, c.push_reserved.ensures.len, c.loop-line.invariant.len);
      room = c.push_reserved.ensures.capacity ∙ c.loop-line.invariant.room;
      rest =
          append_assoc c.loop-line.yielded (c.in-Some.line ∷ []) (into_iter_items c.next.new.self)
          ∙ ap (λ ls. c.loop-line.yielded ++ ls) (sym c.in-Some.ensures.steps.0)
          ∙ c.loop-line.invariant.rest;
    }

pub returns-clause-steps : goal.returns-clause-steps
returns-clause-steps c =
    let all : c.loop-line.yielded ≡ c.args.lines =
    sym (append-nil c.loop-line.yielded) ∙ ap (λ ls. c.loop-line.yielded ++ ls) (sym (nothing-left (into_iter_items c.loop-line.line-iterator) (omega (arith, c.in-None.ensures.steps.0, c.loop-line.line-iterator.rest.ok.0)))) ∙ c.loop-line.invariant.rest in
    c.loop-line.invariant.steps
    ∙ ap (λ (ls : List Line). c.args.steps.now.items ++ map (λ (d : Line). with_parents (line_number (map registered_at c.args.register.now.clauses) (length c.args.steps.now.items)) d.step) ls) all

pub returns-clause-len : goal.returns-clause-len
returns-clause-len c =
    let all : c.loop-line.yielded ≡ c.args.lines =
    sym (append-nil c.loop-line.yielded) ∙ ap (λ ls. c.loop-line.yielded ++ ls) (sym (nothing-left (into_iter_items c.loop-line.line-iterator) (omega (arith, c.in-None.ensures.steps.0, c.loop-line.line-iterator.rest.ok.0)))) ∙ c.loop-line.invariant.rest in
    c.loop-line.invariant.len ∙ ap (λ (ls : List Line). vec_len c.args.steps.now + length ls) all

pub returns-clause-room : goal.returns-clause-room
returns-clause-room c = c.loop-line.invariant.room
