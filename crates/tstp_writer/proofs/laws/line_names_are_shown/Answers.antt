use Rattle.tstp_writer.proofs.ReadAgain.ProblemLemmas.{line_name-shown}
use Rattle.tstp_writer.proofs.laws.line_names_are_shown.Goals as goal

pub returns : goal.returns
returns c = line_name-shown
