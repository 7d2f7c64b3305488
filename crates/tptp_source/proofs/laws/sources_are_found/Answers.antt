use Rattle.tptp_source.proofs.AboutWholes.SourceLemmas.{source-is, source-shape}
use Rattle.tptp_source.proofs.laws.sources_are_found.Goals as goal

pub returns : goal.returns
returns c = λ t s. (source-shape t s, source-is t s)
