use Rattle.std.proofs.Common.{arith}
use Rattle.eq_rules.proofs.outsizing.larger_size.Goals as goal

pub returns : goal.returns
returns c = omega (arith, c.max.ensures, c.in_ok-left_size.ensures, c.in_ok-right_size.ensures)
