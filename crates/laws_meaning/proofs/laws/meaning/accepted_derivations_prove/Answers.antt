use Rattle.laws_meaning.proofs.AboutForms.ConsequenceLemmas.{accepted_derivations_prove}
use Rattle.laws_meaning.proofs.laws.meaning.accepted_derivations_prove.Goals as goal

pub returns : goal.returns
returns c = accepted_derivations_prove
