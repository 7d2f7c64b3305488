use Rattle.typed_machine.proofs.AboutTexts.Placed.{the-answer-from}
use Rattle.typed_machine.proofs.laws.one_typed_answer.Goals as goal

pub returns : goal.returns
returns c = the-answer-from
