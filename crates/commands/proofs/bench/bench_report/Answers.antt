use Rattle.std.proofs.Common.{List, inl, ap, subst}
use Rattle.fol_base.specs.Clause.{TreeClause}
use Rattle.pool_history.specs.declared.options.Options.{Options}
use Rattle.signature.specs.Form.{ClausalForm, clausal_form}
use Rattle.tptp_tree.specs.declared.problem.Annotated.{Annotated}
use Rattle.std.proofs.lemmas.Result.{IfOk-weaker}
use Rattle.commands.specs.AnswerShape.{IsProvedForm, PoolSays}
use Rattle.command_reports.specs.BenchReports.{IsBenchReport}
use Rattle.commands.proofs.bench.bench_report.Goals as goal

pub prove_form-requires-clause-inputs : goal.prove_form-requires-clause-inputs
prove_form-requires-clause-inputs g c = λ κs within. inl (ap (λ (f : ClausalForm). f.clauses) c.in_ok-formed.ensures.form)

pub summary_report-requires-clause-proved : goal.summary_report-requires-clause-proved
summary_report-requires-clause-proved g c =
    subst
    (λ (options : Options).
    IsProvedForm c.in_ok-formed.formed.problem.formulas (clausal_form c.in_ok-formed.formed.problem.formulas).clauses options c.in_ok-proved.proved)
    c.default_options.ensures.given
    (subst (λ (cs : List TreeClause). IsProvedForm c.in_ok-formed.formed.problem.formulas cs c.default_options.result c.in_ok-proved.proved)
    (ap (λ (f : ClausalForm). f.clauses) c.in_ok-formed.ensures.form) c.in_ok-proved.ensures.proved)

pub summary_report-requires-clause-says : goal.summary_report-requires-clause-says
summary_report-requires-clause-says g c =
    subst
    (λ (options : Options).
    PoolSays c.in_ok-formed.formed.problem.formulas (clausal_form c.in_ok-formed.formed.problem.formulas).clauses options c.in_ok-proved.proved)
    c.default_options.ensures.given
    (subst (λ (cs : List TreeClause). PoolSays c.in_ok-formed.formed.problem.formulas cs c.default_options.result c.in_ok-proved.proved)
    (ap (λ (f : ClausalForm). f.clauses) c.in_ok-formed.ensures.form) c.in_ok-proved.ensures.says)

pub returns : goal.returns
returns g c =
    IfOk-weaker c.summary_report.result _ _
    (λ report h. subst (λ (fs : List Annotated). IsBenchReport c.args.number fs report.status report.text) c.in_ok-formed.ensures.made h)
    c.summary_report.ensures
