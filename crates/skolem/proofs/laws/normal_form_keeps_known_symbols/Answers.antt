use Rattle.skolem.proofs.AboutFormulas.ProblemLemmas.{normal_form_keeps_known_symbols}
use Rattle.skolem.proofs.laws.normal_form_keeps_known_symbols.Goals as goal

pub returns : goal.returns
returns c = normal_form_keeps_known_symbols
