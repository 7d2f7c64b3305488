use Rattle.axiom_filter.proofs.AboutParts.RestrictionLemmas.{parts_are_inputs}
use Rattle.axiom_filter.proofs.laws.parts_are_inputs.Goals as goal

pub returns : goal.returns
returns c = parts_are_inputs
