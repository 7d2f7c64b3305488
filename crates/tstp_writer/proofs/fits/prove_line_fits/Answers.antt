use Rattle.fol_base.specs.Literal.{clause_of}
use Rattle.tstp_writer.proofs.AboutPrinted.FitLemmas.{line-fits}
use Rattle.tstp_writer.proofs.fits.prove_line_fits.Goals as goal

pub returns : goal.returns
returns c = record {
  variables =
      line-fits c.args.line.now.step (clause_of c.args.line.now.clause) c.variable_bound.result c.variable_bound.ensures.value
      c.variable_bound.ensures.limit c.prove_variables_fit.ensures;
  numbers = c.prove_step_fits.ensures;
}
