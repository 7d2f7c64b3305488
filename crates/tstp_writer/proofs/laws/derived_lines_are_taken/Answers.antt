use Rattle.tstp_writer.proofs.AboutNeeded.DerivedNames.{derived-taken}
use Rattle.tstp_writer.proofs.laws.derived_lines_are_taken.Goals as goal

pub returns : goal.returns
returns c = derived-taken
