use Rattle.std.proofs.Common.{refl}
use Rattle.std.specs.Fmt.{digits}
use Rattle.commands.proofs.laws.bench_examples.Goals as goal

pub returns : goal.returns
unfolding digits
returns c = record { names = refl; texts = refl }
