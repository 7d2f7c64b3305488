use Rattle.std.proofs.Common.{get_or}
use Rattle.std.proofs.lemmas.Option.{slice_get-get_or}
use Rattle.tstp_writer.specs.ReadableLines.{Fits}
use Rattle.tstp_writer.proofs.AboutPrinted.FitLemmas.{all-more, all-taken}
use Rattle.tstp_writer.proofs.fits.prove_numbers_fit.Goals as goal

pub loop-number-preserved : goal.loop-number-preserved
loop-number-preserved c =
    all-more Fits c.args.numbers.now c.loop-number.number-index (get_or c.args.numbers.now c.loop-number.number-index 0)
    (slice_get-get_or c.args.numbers.now c.loop-number.number-index 0 c.loop-number-test.true) c.loop-number.invariant c.prove_number_fits.ensures

pub returns : goal.returns
returns c = all-taken Fits c.args.numbers.now c.loop-number.number-index c.loop-number-test.false c.loop-number.invariant
