use Rattle.laws_meaning.proofs.AboutForms.ConsequenceLemmas.{refuted_conjectures_follow}
use Rattle.laws_meaning.proofs.laws.meaning.refuted_conjectures_follow.Goals as goal

pub returns : goal.returns
returns c = refuted_conjectures_follow
