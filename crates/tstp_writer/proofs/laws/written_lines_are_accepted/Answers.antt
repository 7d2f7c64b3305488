use Rattle.tstp_writer.proofs.AboutPrinted.WrittenLines.{written-accepted}
use Rattle.tstp_writer.proofs.laws.written_lines_are_accepted.Goals as goal

pub returns : goal.returns
returns c = written-accepted
