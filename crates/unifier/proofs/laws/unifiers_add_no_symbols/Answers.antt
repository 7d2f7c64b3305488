use Rattle.unifier.proofs.AboutAdditions.SymbolLemmas.{unifiers_add_no_symbols, unifiers_apart_add_no_symbols}
use Rattle.unifier.proofs.laws.unifiers_add_no_symbols.Goals as goal

pub returns-clause-together : goal.returns-clause-together
returns-clause-together c = unifiers_add_no_symbols

pub returns-clause-apart : goal.returns-clause-apart
returns-clause-apart c = unifiers_apart_add_no_symbols
