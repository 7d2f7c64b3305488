use Rattle.term_bank.specs.Table.{IsTableOf}
use Rattle.bank_clause.specs.Clause.{AreMembersOf}
use Rattle.test_rules.proofs.samples.members.Given as goal

abbrev pub invariant-loop-index : goal.invariant-loop-index
invariant-loop-index g l = IsTableOf l.bank l.table × AreMembersOf l.bank l.made
