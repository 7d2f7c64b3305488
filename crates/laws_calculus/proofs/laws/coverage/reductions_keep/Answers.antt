use Rattle.laws_calculus.proofs.AboutCovering.RewriteLemmas.{reductions_keep_symbols, reductions_keep_names}
use Rattle.laws_calculus.proofs.laws.coverage.reductions_keep.Goals as goal

pub returns-clause-symbols : goal.returns-clause-symbols
returns-clause-symbols c = reductions_keep_symbols

pub returns-clause-names : goal.returns-clause-names
returns-clause-names c = reductions_keep_names
