use Rattle.std.proofs.Common.{map}
use Rattle.fol_base.specs.Literal.{clause_of}
use Rattle.split_parts.specs.SignedNames.{named}
use Rattle.pool_writer.proofs.AboutRetracing.RetraceLemmas.{some-step, refuting-earlier}
use Rattle.pool_writer.proofs.retrace.prove_steps.Goals as goal

pub returns-clause-some : goal.returns-clause-some
returns-clause-some c = some-step (map clause_of c.args.form.now) (named c.args.parts.now.parts) c.args.steps.now c.requires

pub returns-clause-earlier : goal.returns-clause-earlier
returns-clause-earlier c = refuting-earlier (map clause_of c.args.form.now) (named c.args.parts.now.parts) c.args.steps.now c.requires
