use Rattle.std.proofs.Common.{◌≡◌, length, refl, ap, sym, ◌∙◌, arith}
use Rattle.std.proofs.lemmas.List.{length-set}
use Rattle.sat_core.proofs.AboutAnswers.SoundLemmas.{pushed_remaining}
use Rattle.sat_core.proofs.AboutAnswers.SolverLemmas.{decided}
use Rattle.sat_core.proofs.solver.Solver.decide.Goals as goal

pub returns : goal.returns
returns c =
    let names : length c.push.new.self.slots.items ≡ length c.args.self.now.trail.slots.items =
    ap length c.in_ok-push.ensures.slots ∙ length-set c.args.self.now.trail.slots.items _ _ in
    record {
      state = record {
        derived = c.requires.state.derived;
        sound = decided _ _ _ _ _ c.args.literal c.requires.state.sound c.requires.free c.in_ok-push.ensures.trail c.in_ok-push.ensures.entries c.in_ok-push.ensures.slots;
        marks = c.requires.state.marks;
        marked_names = c.requires.state.marked_names ∙ sym names;
        lists = omega (arith, c.requires.state.lists, names);
        copies = c.requires.state.copies;
      };
      inputs = refl;
      names = names;
      fewer = pushed_remaining _ _ _ _ _ c.in_ok-push.ensures.trail c.in_ok-push.ensures.entries names;
    }
