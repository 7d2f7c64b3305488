use Rattle.std.proofs.Common.{◌≡◌}
use Rattle.fol_base.specs.Canonical.{numbers_from}
use Rattle.tstp_writer.proofs.write.numbers_below.Given as goal

abbrev pub invariant-loop-number : goal.invariant-loop-number
invariant-loop-number l = l.numbers ≡ numbers_from 0 l.number
