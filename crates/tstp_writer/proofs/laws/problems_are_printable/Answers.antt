use Rattle.tstp_writer.proofs.ReadAgain.ProblemLemmas.{problem-lines-printable}
use Rattle.tstp_writer.proofs.ReadAgain.ProblemTrees.{script-printable, beginning-printable}
use Rattle.tstp_writer.proofs.laws.problems_are_printable.Goals as goal

pub returns : goal.returns
returns c = record {
  lines = problem-lines-printable;
  by_places = script-printable;
  beginnings = beginning-printable;
}
