use Rattle.laws_calculus.proofs.WorkedExamples.ClosureExamples.{member, not_a_member, nothing_named, one_missing, no_member, one_listed, one_covered}
use Rattle.laws_calculus.proofs.laws.examples.closure_examples.Goals as goal

pub returns-clause-member : goal.returns-clause-member
returns-clause-member c = member

pub returns-clause-not_a_member : goal.returns-clause-not_a_member
returns-clause-not_a_member c = not_a_member

pub returns-clause-nothing_named : goal.returns-clause-nothing_named
returns-clause-nothing_named c = nothing_named

pub returns-clause-one_missing : goal.returns-clause-one_missing
returns-clause-one_missing c = one_missing

pub returns-clause-no_member : goal.returns-clause-no_member
returns-clause-no_member c = no_member

pub returns-clause-one_listed : goal.returns-clause-one_listed
returns-clause-one_listed c = one_listed

pub returns-clause-one_covered : goal.returns-clause-one_covered
returns-clause-one_covered c = one_covered
