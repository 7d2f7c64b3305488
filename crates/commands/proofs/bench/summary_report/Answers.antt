use Rattle.std.proofs.Common.{Some, ap, subst, ◌∙◌}
use Rattle.std.proofs.lemmas.Result.{IfOk-weaker}
use Rattle.signature.specs.Form.{clausal_form}
use Rattle.pool_history.specs.Replay.{Origin, replay}
use Rattle.commands.specs.AnswerShape.{OutcomeSays}
use Rattle.command_reports.specs.BenchReports.{bench_pool}
use Rattle.commands.proofs.AboutBench.SummaryLemmas.{summed-theorem, summed-no-theorem, summed-limit, summed-set-aside}
use Rattle.commands.proofs.bench.summary_report.Goals as goal

pub derivation_lines-requires-clause-refuted : goal.derivation_lines-requires-clause-refuted
derivation_lines-requires-clause-refuted c = c.requires.proved.pool.outcome ∙ ap Some c.in-Refuted.is

pub derivation_lines-requires-clause-inputs : goal.derivation_lines-requires-clause-inputs
derivation_lines-requires-clause-inputs c = ap (λ (begun : Origin). begun.inputs) c.requires.proved.pool.origin

pub returns-in_ok-lines-in-Refuted : goal.returns-in_ok-lines-in-Refuted
returns-in_ok-lines-in-Refuted c =
    IfOk-weaker c.summary.result _ _
    (λ report h.
    summed-theorem c.args.number c.args.formed.now.problem.formulas c.args.proved.now c.requires.proved c.counted-counted.result c.counted-counted.ensures
    report.status report.text c.in-Refuted.is
    (subst
    (OutcomeSays c.args.formed.now.problem.formulas (clausal_form c.args.formed.now.problem.formulas).clauses bench_pool
    (replay c.args.proved.now.pool.origin c.args.proved.now.pool.history))
    c.in-Refuted.is c.requires.says)
    c.requires.admissible.closed c.in_ok-lines-in-Refuted.lines c.in_ok-lines-in-Refuted.ensures h.0 h.1)
    c.summary.ensures

pub returns-in-Saturated : goal.returns-in-Saturated
returns-in-Saturated c =
    IfOk-weaker c.summary-in-Saturated.result _ _
    (λ report h.
    summed-no-theorem c.args.number c.args.formed.now.problem.formulas c.args.proved.now c.requires.proved c.counted-counted.result c.counted-counted.ensures
    report.status report.text c.in-Saturated.is
    (subst
    (OutcomeSays c.args.formed.now.problem.formulas (clausal_form c.args.formed.now.problem.formulas).clauses bench_pool
    (replay c.args.proved.now.pool.origin c.args.proved.now.pool.history))
    c.in-Saturated.is c.requires.says)
    c.members_have_met.ensures h.0 h.1)
    c.summary-in-Saturated.ensures

pub returns-in-Spent : goal.returns-in-Spent
returns-in-Spent c =
    IfOk-weaker c.summary-in-Spent.result _ _
    (λ report h.
    summed-limit c.args.number c.args.formed.now.problem.formulas c.args.proved.now c.requires.proved c.counted-counted.result c.counted-counted.ensures
    report.status report.text c.in-Spent.field-0 c.in-Spent.is
    (subst
    (OutcomeSays c.args.formed.now.problem.formulas (clausal_form c.args.formed.now.problem.formulas).clauses bench_pool
    (replay c.args.proved.now.pool.origin c.args.proved.now.pool.history))
    c.in-Spent.is c.requires.says)
    h.0 h.1)
    c.summary-in-Spent.ensures

pub returns-in-Heavy : goal.returns-in-Heavy
returns-in-Heavy c =
    IfOk-weaker c.summary-in-Heavy.result _ _
    (λ report h.
    summed-set-aside c.args.number c.args.formed.now.problem.formulas c.args.proved.now c.requires.proved c.counted-counted.result c.counted-counted.ensures
    report.status report.text c.in-Heavy.field-0 c.in-Heavy.is
    (subst
    (OutcomeSays c.args.formed.now.problem.formulas (clausal_form c.args.formed.now.problem.formulas).clauses bench_pool
    (replay c.args.proved.now.pool.origin c.args.proved.now.pool.history))
    c.in-Heavy.is c.requires.says)
    h.0 h.1)
    c.summary-in-Heavy.ensures
