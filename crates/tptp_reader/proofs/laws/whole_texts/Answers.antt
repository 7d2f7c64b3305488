use Rattle.tptp_reader.proofs.AboutTexts.TextLemmas.{read-is-spelled, spelled-is-read}
use Rattle.tptp_reader.proofs.laws.whole_texts.Goals as goal

pub returns : goal.returns
returns c = record { read_is_spelled = read-is-spelled; spelled_is_read = spelled-is-read }
