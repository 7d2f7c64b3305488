use Rattle.tptp_tree.proofs.AboutLevels.PrintedLevels.{printing-doubles, written-doubles}
use Rattle.tptp_tree.proofs.laws.printing_at_most_doubles.Goals as goal

pub returns : goal.returns
returns c = record { texts = printing-doubles; written = written-doubles }
