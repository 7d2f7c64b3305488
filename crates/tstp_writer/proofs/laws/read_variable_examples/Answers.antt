use Rattle.std.proofs.Common.{refl}
use Rattle.tstp_writer.proofs.laws.read_variable_examples.Goals as goal

pub returns : goal.returns
returns c = record { of_clause = refl; alone = refl }
