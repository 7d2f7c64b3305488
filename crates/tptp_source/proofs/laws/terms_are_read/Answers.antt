use Rattle.tptp_source.proofs.AboutWholes.Complete.{spelled-read}
use Rattle.tptp_source.proofs.AboutWholes.Sound.{read-spelled}
use Rattle.tptp_source.proofs.laws.terms_are_read.Goals as goal

pub returns : goal.returns
returns c = λ tokens t. (read-spelled tokens t, spelled-read tokens t)
