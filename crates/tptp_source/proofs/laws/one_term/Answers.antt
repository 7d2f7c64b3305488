use Rattle.tptp_source.proofs.AboutWholes.WholeReads.{one-term}
use Rattle.tptp_source.proofs.laws.one_term.Goals as goal

pub returns : goal.returns
returns c = one-term
