use Rattle.kernel_steps.proofs.AboutCalls.SymbolLemmas.{conclusions_keep_symbols, steps_keep_symbols, derivations_keep_symbols}
use Rattle.kernel_steps.proofs.laws.symbols.lines_keep_symbols.Goals as goal

pub returns-clause-conclusions : goal.returns-clause-conclusions
returns-clause-conclusions c = conclusions_keep_symbols

pub returns-clause-steps : goal.returns-clause-steps
returns-clause-steps c = steps_keep_symbols

pub returns-clause-derivations : goal.returns-clause-derivations
returns-clause-derivations c = derivations_keep_symbols
