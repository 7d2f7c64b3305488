use Rattle.tstp_writer.proofs.AboutPrinted.LineLemmas.{lines-spelled}
use Rattle.tstp_writer.proofs.laws.printed_lines_are_spelled.Goals as goal

pub returns : goal.returns
returns c = lines-spelled
