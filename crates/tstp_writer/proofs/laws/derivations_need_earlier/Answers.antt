use Rattle.tstp_writer.proofs.AboutNeeded.EarlierLemmas.{need-earlier}
use Rattle.tstp_writer.proofs.laws.derivations_need_earlier.Goals as goal

pub returns : goal.returns
returns c = need-earlier
