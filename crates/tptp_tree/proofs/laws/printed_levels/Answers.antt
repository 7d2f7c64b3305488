use Rattle.tptp_tree.proofs.AboutLevels.PrintedLevels.{printed-exactly}
use Rattle.tptp_tree.proofs.laws.printed_levels.Goals as goal

pub returns : goal.returns
returns c = printed-exactly
