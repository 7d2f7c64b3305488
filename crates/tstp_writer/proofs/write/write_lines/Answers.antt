use Rattle.tstp_writer.proofs.AboutPrinted.LayoutLemmas.{cone-below}
use Rattle.tstp_writer.proofs.write.write_lines.Goals as goal

pub write_numbered-requires-clause-below : goal.write_numbered-requires-clause-below
write_numbered-requires-clause-below c =
    cone-below c.args.lines.now c.args.last c.in_ok-numbers.numbers c.requires.last c.in_ok-numbers.ensures
