use Rattle.signature.proofs.SkolemLemmas.{skolem_symbols_are_counted, skolem_symbols_of_problem_are_counted}
use Rattle.signature.proofs.laws.skolem_counts.skolem_symbols_are_counted.Goals as goal

pub returns : goal.returns
returns c = record { formulas = skolem_symbols_are_counted; problems = skolem_symbols_of_problem_are_counted }
