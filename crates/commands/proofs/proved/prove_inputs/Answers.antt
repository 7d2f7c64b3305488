use Rattle.std.proofs.Common.{map}
use Rattle.fol_base.specs.Literal.{clause_of}
use Rattle.commands.proofs.AboutOutcomes.InputLemmas.{are-inputs}
use Rattle.commands.proofs.proved.prove_inputs.Goals as goal

pub returns : goal.returns
returns c = are-inputs c.args.problem.now.formulas (map clause_of c.args.inputs.now) c.requires.inputs c.requires.within
