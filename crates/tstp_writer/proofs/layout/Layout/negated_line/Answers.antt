use Rattle.std.proofs.Common.{arith}
use Rattle.tstp_writer.proofs.AboutPrinted.LayoutLemmas.{place-le}
use Rattle.tstp_writer.proofs.layout.Layout.negated_line.Goals as goal

pub overflow_add-result : goal.overflow_add-result
overflow_add-result c =
    omega (arith, c.len.ensures, c.place.ensures, place-le c.args.place c.self.inside.negated, c.self.invariant)
