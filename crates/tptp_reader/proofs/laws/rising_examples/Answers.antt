use Rattle.std.proofs.Common.{arith}
use Rattle.tptp_reader.proofs.laws.rising_examples.Goals as goal

pub returns : goal.returns
returns c = record {
  two_tokens = (omega arith, omega arith, (omega arith, omega arith, omega arith));
  empty_token = λ h. omega (arith, h.1);
  crossing_tokens = λ h. omega (arith, h.2.0);
  token_too_far = λ h. omega (arith, h.2);
}
