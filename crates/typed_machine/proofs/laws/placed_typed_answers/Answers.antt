use Rattle.typed_machine.proofs.AboutTexts.Placed.{read-from, refused-from, runs-out-from}
use Rattle.typed_machine.proofs.laws.placed_typed_answers.Goals as goal

pub returns : goal.returns
returns c = record { read = read-from; refused = refused-from; runs_out = runs-out-from }
