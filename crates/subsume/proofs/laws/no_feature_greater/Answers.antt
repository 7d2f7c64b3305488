use Rattle.subsume.proofs.AboutTree.FeatureLemmas.{no_feature_greater, no_measure_greater}
use Rattle.subsume.proofs.laws.no_feature_greater.Goals as goal

pub returns-clause-features : goal.returns-clause-features
returns-clause-features c = no_feature_greater

pub returns-clause-measures : goal.returns-clause-measures
returns-clause-measures c = no_measure_greater
