use Rattle.tstp_writer.proofs.AboutPrinted.AcceptedTexts.{text-accepted}
use Rattle.tstp_writer.proofs.laws.written_texts_are_accepted.Goals as goal

pub returns : goal.returns
returns c = text-accepted
