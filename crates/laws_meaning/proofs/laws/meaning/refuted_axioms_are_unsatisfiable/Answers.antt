use Rattle.laws_meaning.proofs.AboutForms.ConsequenceLemmas.{refuted_axioms_are_unsatisfiable}
use Rattle.laws_meaning.proofs.laws.meaning.refuted_axioms_are_unsatisfiable.Goals as goal

pub returns : goal.returns
returns c = refuted_axioms_are_unsatisfiable
