use Rattle.commands.proofs.AboutOutcomes.ModelLemmas.{forms-are-over-signatures}
use Rattle.commands.proofs.laws.forms_are_over_signatures.Goals as goal

pub returns : goal.returns
returns c = forms-are-over-signatures
