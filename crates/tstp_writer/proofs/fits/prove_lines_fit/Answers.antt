use Rattle.std.proofs.Common.{refl, length}
use Rattle.std.proofs.lemmas.Option.{slice_get_read}
use Rattle.fol_base.specs.Literal.{clause_of}
use Rattle.kernel_steps.specs.declared.step.Line.{Line}
use Rattle.tstp_writer.specs.ReadableLines.{NumbersFit}
use Rattle.tstp_writer.proofs.AboutPrinted.FitLemmas.{all-more, all-taken}
use Rattle.tstp_writer.proofs.fits.prove_lines_fit.Goals as goal

pub loop-line-preserved : goal.loop-line-preserved
loop-line-preserved c =
    all-more (λ (k : Line). NumbersFit k.step (clause_of k.clause)) c.args.lines.now c.loop-line.line-index c.line-item.result
    (slice_get_read c.args.lines.now (length c.args.lines.now) c.loop-line.line-index c.line-item.result refl c.loop-line-test.true c.line-item.is)
    c.loop-line.invariant c.prove_line_fits.ensures

pub returns : goal.returns
returns c =
    all-taken (λ (k : Line). NumbersFit k.step (clause_of k.clause)) c.args.lines.now c.loop-line.line-index
    c.loop-line-test.false c.loop-line.invariant
