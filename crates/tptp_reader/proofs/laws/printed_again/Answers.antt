use Rattle.tptp_reader.proofs.AboutTexts.PrintedLemmas.{text-again, reading-again}
use Rattle.tptp_reader.proofs.AboutTexts.TextLemmas.{spelled-name, read-name}
use Rattle.tptp_reader.proofs.laws.printed_again.Goals as goal

pub returns : goal.returns
returns c = record { spelled = text-again; read = reading-again; spelled_name = spelled-name; read_name = read-name }
