use Rattle.clausal_form.proofs.AboutCounts.CountingLemmas.{IsCounted}
use Rattle.clausal_form.proofs.counting.count_skolem_symbols.Given as goal

abbrev pub invariant-loop-annotated : goal.invariant-loop-annotated
invariant-loop-annotated l = IsCounted l.formulas l.annotated-index l.total
