use Rattle.tptp_reader.proofs.AboutTexts.VerdictLemmas.{the-answer}
use Rattle.tptp_reader.proofs.laws.one_answer.Goals as goal

pub returns : goal.returns
returns c = the-answer
