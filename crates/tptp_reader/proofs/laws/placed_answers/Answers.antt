use Rattle.tptp_reader.proofs.AboutTexts.PlacedLemmas.{read-from, refused-from, runs-out-from}
use Rattle.tptp_reader.proofs.laws.placed_answers.Goals as goal

pub returns : goal.returns
returns c = record { read = read-from; refused = refused-from; runs_out = runs-out-from }
