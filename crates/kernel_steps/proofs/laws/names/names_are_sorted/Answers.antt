use Rattle.kernel_steps.proofs.AboutNames.SortedNames.{sorted_names_law}
use Rattle.kernel_steps.proofs.laws.names.names_are_sorted.Goals as goal

pub returns : goal.returns
returns c = sorted_names_law
