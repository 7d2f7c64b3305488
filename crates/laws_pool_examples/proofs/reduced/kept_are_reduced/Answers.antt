use Rattle.laws_pool_examples.proofs.ReducedLemmas.{kept_are_reduced}
use Rattle.laws_pool_examples.proofs.reduced.kept_are_reduced.Goals as goal

pub returns : goal.returns
returns c = kept_are_reduced
