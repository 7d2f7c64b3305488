use Rattle.tptp_source.proofs.AboutLevels.SourceLevels.{source-levels}
use Rattle.tptp_source.proofs.laws.sources_have_their_levels.Goals as goal

pub returns : goal.returns
returns c = source-levels
