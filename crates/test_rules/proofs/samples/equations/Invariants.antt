use Rattle.rewriting.specs.Units.{AreClausesOf}
use Rattle.test_rules.proofs.samples.equations.Given as goal

abbrev pub invariant-loop-member : goal.invariant-loop-member
invariant-loop-member g l = AreClausesOf l.bank l.equations
