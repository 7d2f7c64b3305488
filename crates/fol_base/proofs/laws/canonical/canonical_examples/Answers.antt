use Rattle.std.proofs.Common.{get_or, ap, arith}
use Rattle.fol_base.proofs.laws.canonical.canonical_examples.Goals as goal

pub returns-clause-gap : goal.returns-clause-gap
returns-clause-gap c = λ h. omega (arith, ap (λ vs. get_or vs 1 0) h)

pub returns-clause-second_before_first : goal.returns-clause-second_before_first
returns-clause-second_before_first c = λ h. omega (arith, ap (λ vs. get_or vs 0 0) h)

pub returns-clause-right_side_first : goal.returns-clause-right_side_first
returns-clause-right_side_first c = λ h. omega (arith, ap (λ vs. get_or vs 0 0) h)
