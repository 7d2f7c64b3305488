use Rattle.axiom_filter.proofs.AboutParts.RestrictionLemmas.{parts_derive}
use Rattle.axiom_filter.proofs.laws.parts_derive.Goals as goal

pub returns : goal.returns
returns c = parts_derive
