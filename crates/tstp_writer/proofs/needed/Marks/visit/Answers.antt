use Rattle.std.proofs.Common.{◌∙◌, sym, subst, ◌<◌}
use Rattle.tstp_writer.proofs.AboutNeeded.MarkLemmas.{visited-by-marking}
use Rattle.tstp_writer.proofs.needed.Marks.visit.Goals as goal

pub returns-in_ok-add_needed-clause-visited : goal.returns-in_ok-add_needed-clause-visited
returns-in_ok-add_needed-clause-visited c n other low =
    visited-by-marking c.args.place n c.args.step.now other c.args.self.now c.mark.new.self c.add_needed.new.self (sym c.has_step.ensures ∙ c.if-has_step.true)
    (c.mark.ensures.marks n low) c.mark.ensures.names
    (c.in_ok-add_needed.ensures.added n other (subst (λ k. n < k) (sym c.mark.ensures.room) low))
