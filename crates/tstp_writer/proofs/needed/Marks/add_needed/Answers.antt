use Rattle.std.proofs.Common.{◌∙◌}
use Rattle.std.proofs.lemmas.Bool.{or_left}
use Rattle.tstp_writer.proofs.AboutNeeded.MarkLemmas.{added-by-marking}
use Rattle.tstp_writer.proofs.needed.Marks.add_needed.Goals as goal

pub returns-in_default : goal.returns-in_default
returns-in_default c = record {
  room = c.mark_parents.ensures.room;
  kept = λ n low was. c.mark_parents.ensures.marks n low ∙ or_left _ _ was;
  added =
      λ n other low.
      added-by-marking c.args.step.now other n c.args.self.now c.mark_parents.new.self c.in_default.not-Opposite
      (c.mark_parents.ensures.marks n low) c.mark_parents.ensures.names;
}
