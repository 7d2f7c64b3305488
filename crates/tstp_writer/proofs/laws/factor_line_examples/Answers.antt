use Rattle.std.proofs.Common.{refl, arith}
use Rattle.std.specs.Fmt.{digits}
use Rattle.tstp_writer.proofs.laws.factor_line_examples.Goals as goal

pub returns : goal.returns
unfolding digits
returns c = record {
  text = refl;
  readable = record {
    literals = refl;
    sides = refl;
    binds = refl;
    small = refl;
    canonical = refl;
  };
  numbers = record { variables = (omega arith, (omega arith, (omega arith, tt))); numbers = tt };
}
