use Rattle.std.proofs.Common.{take}
use Rattle.std.specs.List.{AllByRecursion}
use Rattle.fol_base.specs.Literal.{clause_of}
use Rattle.kernel_steps.specs.declared.step.Line.{Line}
use Rattle.tstp_writer.specs.ReadableLines.{NumbersFit}
use Rattle.tstp_writer.proofs.fits.prove_lines_fit.Given as goal

abbrev pub invariant-loop-line : goal.invariant-loop-line
invariant-loop-line l =
    AllByRecursion (λ (k : Line). NumbersFit k.step (clause_of k.clause)) (take l.line-index l.lines)
