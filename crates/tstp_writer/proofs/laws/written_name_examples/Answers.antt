use Rattle.std.proofs.Common.{refl}
use Rattle.std.specs.Fmt.{digits}
use Rattle.tstp_writer.proofs.laws.written_name_examples.Goals as goal

pub returns : goal.returns
unfolding digits
returns c = record { rising = refl; falling = refl }
