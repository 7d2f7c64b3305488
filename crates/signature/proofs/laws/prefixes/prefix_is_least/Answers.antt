use Rattle.signature.proofs.PrefixLemmas.{prefix_is_least}
use Rattle.signature.proofs.laws.prefixes.prefix_is_least.Goals as goal

pub returns : goal.returns
returns c = prefix_is_least
