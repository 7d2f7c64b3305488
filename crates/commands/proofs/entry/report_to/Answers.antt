use Rattle.std.proofs.Common.{ap, refl, subst}
use Rattle.std.proofs.lemmas.Result.{IfOk-weaker}
use Rattle.command_words.specs.Words.{prove, check, bench, model, list_ground, decide}
use Rattle.command_words.specs.WordParts.{command_meant, lent, IsFit}
use Rattle.commands.specs.BenchProblem.{bench_formulas}
use Rattle.commands.specs.Problems.{of_formulas}
use Rattle.command_words.specs.declared.command.Command.{Command}
use Rattle.commands.proofs.AboutBench.FormLemmas.{bench-within}
use Rattle.commands.proofs.AboutPages.AnswerLemmas.{answered-as}
use Rattle.commands.proofs.entry.report_to.Goals as goal

pub returns-in-Prove : goal.returns-in-Prove
returns-in-Prove g c =
    answered-as c.prove_report.result _ (command_meant c.args.command) (prove c.in-Prove.file.now (lent c.in-Prove.root) c.in-Prove.options c.in-Prove.workers)
    (ap command_meant c.in-Prove.is) c.prove_report.ensures

pub returns-in-Check : goal.returns-in-Check
returns-in-Check g c =
    answered-as c.check_report.result _ (command_meant c.args.command)
    (check c.in-Check.file.now c.in-Check.derivation.now (lent c.in-Check.root)) (ap command_meant c.in-Check.is) c.check_report.ensures

pub returns-in-Bench : goal.returns-in-Bench
returns-in-Bench g c =
    let fit : IsFit (bench c.in-Bench.number) = subst (λ (k : Command). IsFit (command_meant k)) c.in-Bench.is c.requires.fit in
    answered-as c.bench_report.result _ (command_meant c.args.command) (bench c.in-Bench.number) (ap command_meant c.in-Bench.is)
    (IfOk-weaker c.bench_report.result _ _
    (λ report h. of_formulas (bench_formulas c.in-Bench.number) (record { read = refl; within = bench-within c.in-Bench.number fit.1 }) h)
    c.bench_report.ensures)

pub returns-in-Model : goal.returns-in-Model
returns-in-Model g c =
    answered-as c.model_report.result _ (command_meant c.args.command) (model c.in-Model.file.now (lent c.in-Model.root) c.in-Model.most)
    (ap command_meant c.in-Model.is) c.model_report.ensures

pub returns-in-Ground : goal.returns-in-Ground
returns-in-Ground g c =
    answered-as c.ground_report.result _ (command_meant c.args.command)
    (list_ground c.in-Ground.file.now c.in-Ground.derivation.now (lent c.in-Ground.root)) (ap command_meant c.in-Ground.is) c.ground_report.ensures

pub returns-in-Decide : goal.returns-in-Decide
returns-in-Decide g c =
    answered-as c.decide_report.result _ (command_meant c.args.command) (decide c.in-Decide.file.now (lent c.in-Decide.root))
    (ap command_meant c.in-Decide.is) c.decide_report.ensures
