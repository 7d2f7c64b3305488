use Rattle.std.proofs.Common.{take}
use Rattle.std.specs.Prelude.{flat_map}
use Rattle.std.specs.List.{AllByRecursion}
use Rattle.tstp_writer.specs.ReadableLines.{Fits}
use Rattle.tstp_writer.proofs.fits.prove_parts_fit.Given as goal

abbrev pub invariant-loop-part : goal.invariant-loop-part
invariant-loop-part l = AllByRecursion Fits (flat_map (λ ns. ns) (take l.part-index l.parts))
