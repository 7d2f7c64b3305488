use Rattle.laws_meaning.proofs.AboutForms.ConsequenceLemmas.{refuted_problems_have_no_model}
use Rattle.laws_meaning.proofs.laws.meaning.refuted_problems_have_no_model.Goals as goal

pub returns : goal.returns
returns c = refuted_problems_have_no_model
