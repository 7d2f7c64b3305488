use Rattle.clausal_form.proofs.AboutDerivations.RefutationLemmas.{accepted_derivations_refute}
use Rattle.clausal_form.proofs.laws.derivations.accepted_derivations_refute.Goals as goal

pub returns : goal.returns
returns c = accepted_derivations_refute
