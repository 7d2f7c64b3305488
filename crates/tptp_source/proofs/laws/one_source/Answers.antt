use Rattle.tptp_source.proofs.AboutWholes.SourceReads.{one-source}
use Rattle.tptp_source.proofs.laws.one_source.Goals as goal

pub returns : goal.returns
returns c = one-source
