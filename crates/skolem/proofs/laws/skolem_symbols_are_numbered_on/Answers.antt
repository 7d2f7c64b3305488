use Rattle.skolem.proofs.AboutFormulas.ProblemLemmas.{skolem_symbols_are_numbered_on}
use Rattle.skolem.proofs.laws.skolem_symbols_are_numbered_on.Goals as goal

pub returns : goal.returns
returns c = skolem_symbols_are_numbered_on
