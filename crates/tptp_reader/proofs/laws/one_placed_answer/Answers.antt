use Rattle.tptp_reader.proofs.AboutTexts.PlacedLemmas.{the-answer-from}
use Rattle.tptp_reader.proofs.laws.one_placed_answer.Goals as goal

pub returns : goal.returns
returns c = the-answer-from
