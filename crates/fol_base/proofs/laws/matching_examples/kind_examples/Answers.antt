use Rattle.std.proofs.Common.{refl}
use Rattle.std.proofs.lemmas.Bool.{false≢true}
use Rattle.fol_base.proofs.laws.matching_examples.kind_examples.Goals as goal

pub returns-clause-function_terms_put : goal.returns-clause-function_terms_put
returns-clause-function_terms_put c = λ v. refl

pub returns-clause-atoms_put : goal.returns-clause-atoms_put
returns-clause-atoms_put c = λ h. false≢true (h 0)
