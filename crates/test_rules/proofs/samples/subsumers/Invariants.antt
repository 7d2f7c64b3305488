use Rattle.bank_clause.specs.Clause.{AreMembersOf}
use Rattle.test_rules.proofs.samples.subsumers.Given as goal

abbrev pub invariant-loop-member : goal.invariant-loop-member
invariant-loop-member g l = AreMembersOf l.bank l.subsumers
