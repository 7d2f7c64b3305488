use Rattle.tstp_lines.proofs.AboutReadings.BindingLemmas.{BindWalk}
use Rattle.tstp_lines.proofs.numbers.LineNumbers.bindings.Given as goal

abbrev pub invariant-loop-item : goal.invariant-loop-item
invariant-loop-item l = BindWalk l.initial.self l.self l.items l.item-index l.made
