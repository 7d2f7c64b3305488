use Rattle.laws_meaning.proofs.AboutForms.SymbolLemmas.{meaning_of_symbols}
use Rattle.laws_meaning.proofs.laws.meaning.meaning_of_symbols.Goals as goal

pub returns : goal.returns
returns c = meaning_of_symbols
