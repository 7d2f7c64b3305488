use Rattle.skolem.proofs.AboutFormulas.CountLemmas.{skolem_symbols_of_matrix_are_counted}
use Rattle.skolem.proofs.laws.skolem_symbols_of_matrix_are_counted.Goals as goal

pub returns : goal.returns
returns c = skolem_symbols_of_matrix_are_counted
