use Rattle.std.proofs.Common.{refl, arith}
use Rattle.tstp_writer.proofs.laws.named_line_examples.Goals as goal

pub returns : goal.returns
returns c = record {
  component = record { literals = refl; sides = refl; binds = refl; small = refl; canonical = refl };
  component_numbers = record { variables = (omega arith, tt); numbers = (omega arith, tt) };
  split = record { literals = refl; sides = refl; binds = refl; small = refl; canonical = refl };
  split_numbers = record { variables = tt; numbers = (omega arith, (omega arith, tt)) };
  names = refl;
}
