use Rattle.std.proofs.Common.{◌≡◌, List, [], ◌∷◌, ◌++◌, length, refl, ap, sym, ◌∙◌, subst, arith}
use Rattle.std.proofs.lemmas.List.{length-set}
use Rattle.sat_core.specs.Clause.{PropClause}
use Rattle.sat_core.specs.State.{SameClauses}
use Rattle.sat_core.specs.Known.{known}
use Rattle.sat_core.proofs.AboutTrails.CopyLemmas.{same_clauses_then, same_clauses_of, copies_grown}
use Rattle.sat_core.proofs.AboutAnswers.SoundLemmas.{turn_remaining}
use Rattle.sat_core.proofs.AboutAnswers.SolverLemmas.{derives_of, turn_of, learned_within, learned_lists, turn_sound, known_grown}
use Rattle.sat_core.proofs.solver.Solver.turn.Goals as goal

pub add_learned-requires-clause-within : goal.add_learned-requires-clause-within
add_learned-requires-clause-within c =
    let is = turn_of _ _ _ _ _ _ _ c.in-Some.turn c.in_ok-turn.ensures.analysis c.in-Some.is in
    learned_within _ _ c.cut.new.self.slots.items _ c.as_slice-clause.result.now c.in-Some.turn is c.cut.ensures.same_length c.as_slice-clause.ensures.value

pub add_learned-requires-clause-lists : goal.add_learned-requires-clause-lists
add_learned-requires-clause-lists c =
    let is = turn_of _ _ _ _ _ _ _ c.in-Some.turn c.in_ok-turn.ensures.analysis c.in-Some.is in
    learned_lists _ _ _ c.as_slice-clause.result.now c.in-Some.turn _ is (c.cut-2.ensures.lists ∙ c.requires.state.lists) c.as_slice-clause.ensures.value

pub learn-requires-clause-chain : goal.learn-requires-clause-chain
learn-requires-clause-chain c =
    rw (c.as_slice-links.ensures.value, c.as_slice-clause.ensures.value)
    (derives_of _ _ _ c.args.number c.args.number _ _ _ refl c.requires.conflict.within c.in_ok-turn.ensures.analysis)

pub returns : goal.returns
returns c =
    let is = turn_of _ _ _ _ _ _ _ c.in-Some.turn c.in_ok-turn.ensures.analysis c.in-Some.is in
    let names : length c.push.new.self.slots.items ≡ length c.args.self.now.trail.slots.items =
    ap length c.in_ok-push.ensures.slots ∙ length-set c.cut.new.self.slots.items _ _ ∙ c.cut.ensures.same_length in
    record {
      state = record {
        derived = c.in_ok-learn.ensures.known;
        sound = turn_sound (known c.args.self.now.clauses) _ _ _ _ _ _ _ _ c.in-Some.turn c.len-learned.result c.requires.state.sound is c.cut.ensures
            (known_grown c.args.self.now.clauses c.learn.new.self _ c.in_ok-learn.ensures.inputs
            (c.in_ok-learn.ensures.more ∙ ap (λ (x : PropClause). c.args.self.now.clauses.learned ++ x ∷ []) c.as_slice-clause.ensures.value)) (omega (arith, c.len-learned.ensures))
            c.in_ok-push.ensures.trail c.in_ok-push.ensures.entries c.in_ok-push.ensures.slots;
        marks = c.in_ok-turn.ensures.marks;
        marked_names = c.in_ok-turn.ensures.names ∙ c.requires.state.marked_names ∙ sym names;
        lists = omega (arith, c.in_ok-note.ensures.lists, c.in_ok-add_learned.ensures.lists, c.cut-2.ensures.lists, c.requires.state.lists, names);
        copies =
            copies_grown _ c.args.self.now.watches.copies.items _ _ c.as_slice-clause.result.now _ c.requires.state.copies
            (same_clauses_then _ _ _ (same_clauses_of _ _ c.in_ok-note.ensures.copies)
            (subst (λ (xs : List PropClause). SameClauses c.add_learned.new.self.copies.items (xs ++ c.as_slice-clause.result.now ∷ []))
            c.cut-2.ensures.copies c.in_ok-add_learned.ensures.copies)) refl
            (known_grown c.args.self.now.clauses c.learn.new.self _ c.in_ok-learn.ensures.inputs c.in_ok-learn.ensures.more);
      };
      inputs = c.in_ok-learn.ensures.inputs;
      names = names;
      fewer = turn_remaining _ _ _ _ _ _ c.in-Some.turn _ c.requires.state.sound.trail is c.cut.ensures c.in_ok-push.ensures.entries refl;
    }
