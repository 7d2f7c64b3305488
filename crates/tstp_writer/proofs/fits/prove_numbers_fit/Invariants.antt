use Rattle.std.proofs.Common.{take}
use Rattle.std.specs.List.{AllByRecursion}
use Rattle.tstp_writer.specs.ReadableLines.{Fits}
use Rattle.tstp_writer.proofs.fits.prove_numbers_fit.Given as goal

abbrev pub invariant-loop-number : goal.invariant-loop-number
invariant-loop-number l = AllByRecursion Fits (take l.number-index l.numbers)
