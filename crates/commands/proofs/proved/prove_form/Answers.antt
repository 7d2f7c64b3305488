use Rattle.std.proofs.Common.{refl, map}
use Rattle.std.proofs.lemmas.Result.{IfOk-weaker}
use Rattle.fol_base.specs.Literal.{clause_of}
use Rattle.worker_team.specs.Proved.{IsProvedFrom}
use Rattle.worker_team.specs.declared.proved.Proved.{Proved as ProvedPool}
use Rattle.commands.specs.AnswerShape.{IsProvedForm, PoolSays}
use Rattle.commands.proofs.AboutOutcomes.OutcomeLemmas.{outcome-says}
use Rattle.commands.proofs.proved.prove_form.Goals as goal

pub returns-clause-proved : goal.returns-clause-proved
returns-clause-proved g c =
    IfOk-weaker c.prove_clauses.result (IsProvedFrom (map clause_of c.args.inputs.now) c.args.options)
    (IsProvedForm c.args.problem.now.formulas (map clause_of c.args.inputs.now) c.args.options)
    (λ (proved : ProvedPool) ended. record { within = c.requires.within; pool = ended }) c.prove_clauses.ensures

pub returns-clause-says : goal.returns-clause-says
returns-clause-says g c =
    IfOk-weaker c.prove_clauses.result (IsProvedFrom (map clause_of c.args.inputs.now) c.args.options)
    (PoolSays c.args.problem.now.formulas (map clause_of c.args.inputs.now) c.args.options)
    (λ (proved : ProvedPool) ended.
    outcome-says c.args.problem.now.formulas (map clause_of c.args.inputs.now) c.requires.inputs c.args.options proved
    (record { within = c.requires.within; pool = ended }) c.saturated_is_saturated.ensures proved.outcome refl) c.prove_clauses.ensures
