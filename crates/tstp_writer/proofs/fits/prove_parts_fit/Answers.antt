use Rattle.std.proofs.Common.{refl, length, subst}
use Rattle.std.specs.List.{AllByRecursion}
use Rattle.std.proofs.lemmas.Option.{slice_get_read}
use Rattle.tstp_writer.specs.ReadableLines.{Fits}
use Rattle.tstp_writer.proofs.AboutPrinted.FitLemmas.{lists-more, lists-taken}
use Rattle.tstp_writer.proofs.fits.prove_parts_fit.Goals as goal

pub loop-part-preserved : goal.loop-part-preserved
loop-part-preserved c =
    lists-more c.args.parts.now c.loop-part.part-index c.part-item.result
    (slice_get_read c.args.parts.now (length c.args.parts.now) c.loop-part.part-index c.part-item.result refl c.loop-part-test.true c.part-item.is)
    c.loop-part.invariant (subst (AllByRecursion Fits) c.as_slice.ensures c.prove_numbers_fit.ensures)

pub returns : goal.returns
returns c = lists-taken c.args.parts.now c.loop-part.part-index c.loop-part-test.false c.loop-part.invariant
