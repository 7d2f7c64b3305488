use Rattle.std.proofs.Common.{refl}
use Rattle.std.specs.Fmt.{digits}
use Rattle.commands.proofs.laws.ground_examples.Goals as goal

pub returns : goal.returns
unfolding digits
returns c = record { listed = refl; closed = refl; open_after = refl }
