use Rattle.fol_base.proofs.AboutClauses.MeaningLemmas.{entails_cut}
use Rattle.fol_base.proofs.laws.meaning.entailment_cuts.Goals as goal

pub returns : goal.returns
returns c = entails_cut
