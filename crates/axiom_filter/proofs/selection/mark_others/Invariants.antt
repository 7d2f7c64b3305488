use Rattle.axiom_filter.proofs.AboutSelections.KeptLemmas.{KeptBelow}
use Rattle.axiom_filter.proofs.selection.mark_others.Given as goal

abbrev pub invariant-loop-place : goal.invariant-loop-place
invariant-loop-place l = KeptBelow l.everything l.formulas l.rows l.place l.initial.marks l.marks
