use Rattle.std.proofs.Common.{arith}
use Rattle.tstp_writer.proofs.AboutPrinted.LayoutLemmas.{place-le}
use Rattle.tstp_writer.proofs.layout.Layout.derived_line.Goals as goal

pub overflow_add-result-2 : goal.overflow_add-result-2
overflow_add-result-2 c =
    omega (arith, c.len.ensures, c.len-2.ensures, c.place.ensures, place-le c.args.number c.self.inside.numbers, c.self.invariant)
