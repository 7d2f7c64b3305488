use Rattle.unit_cutting.specs.Indexed.{KeepsOthers}
use Rattle.given_work.proofs.occurring.take_literals.Given as goal

abbrev pub invariant-loop-index : goal.invariant-loop-index
invariant-loop-index l = KeepsOthers l.number l.initial.terms l.terms
