use Rattle.fol_base.proofs.AboutClauses.MeaningLemmas.{entails_monotone}
use Rattle.fol_base.proofs.laws.meaning.entailment_of_more.Goals as goal

pub returns : goal.returns
returns c = entails_monotone
