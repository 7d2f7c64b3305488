use Rattle.unifier.proofs.AboutClasses.SharedLemmas.{shared_keep_sizes}
use Rattle.unifier.proofs.laws.shared_substitutions_keep_sizes.Goals as goal

pub returns : goal.returns
returns c = shared_keep_sizes
