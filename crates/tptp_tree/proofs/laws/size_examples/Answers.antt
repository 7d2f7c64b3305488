use Rattle.std.proofs.Common.{arith}
use Rattle.tptp_tree.proofs.laws.size_examples.Goals as goal

pub returns-clause-two_fit : goal.returns-clause-two_fit
returns-clause-two_fit c = omega arith

pub returns-clause-too_many : goal.returns-clause-too_many
returns-clause-too_many c = λ fs e h. absurd (omega (arith, e, h))
