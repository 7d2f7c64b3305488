use Rattle.std.proofs.Common.{[]}
use Rattle.tptp_tree.proofs.AboutLevels.LimitLemmas.{body-within, body-shallow}
use Rattle.tptp_tree.proofs.laws.limit_is_of_levels.Goals as goal

pub returns : goal.returns
returns c = λ limit b. (λ h. (body-within limit b [] h).0, λ h. body-shallow limit b [] h tt)
