use Rattle.tstp_writer.proofs.ReadAgain.ReadableTrees.{lines-printable, derivation-printable, derivation-spelled}
use Rattle.tstp_writer.proofs.laws.readable_derivations_are_spelled.Goals as goal

pub returns : goal.returns
returns c = record { lines = lines-printable; derivations = derivation-printable; texts = derivation-spelled }
