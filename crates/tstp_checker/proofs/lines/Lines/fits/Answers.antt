use Rattle.tstp_checker.proofs.lines.Lines.fits.Goals as goal

pub returns : goal.returns
returns c = c.same.ensures c.args.self.now.inputs.formulas.now c.requires
