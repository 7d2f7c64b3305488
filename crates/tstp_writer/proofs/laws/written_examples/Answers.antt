use Rattle.std.proofs.Common.{refl}
use Rattle.std.specs.Fmt.{digits}
use Rattle.tstp_writer.proofs.laws.written_examples.Goals as goal

pub returns : goal.returns
unfolding digits
returns c = record { implication_lines = refl; implication_text = refl; components_lines = refl; components_text = refl; signed_text = refl }
