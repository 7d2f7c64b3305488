use Rattle.std.proofs.Common.{refl}
use Rattle.std.specs.Fmt.{digits}
use Rattle.pool_writer.proofs.laws.saturation.printed_member_examples.Goals as goal

pub returns : goal.returns
unfolding digits
returns c = record { none = refl; one = refl; two = refl; asserted = refl }
