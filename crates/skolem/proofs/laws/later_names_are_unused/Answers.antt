use Rattle.skolem.proofs.AboutFormulas.ProblemLemmas.{later_names_are_unused}
use Rattle.skolem.proofs.laws.later_names_are_unused.Goals as goal

pub returns : goal.returns
returns c = later_names_are_unused
