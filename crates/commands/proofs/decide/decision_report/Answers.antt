use Rattle.std.proofs.Common.{map, refl, ap, ◌∙◌, arith}
use Rattle.std.proofs.lemmas.List.{length-map}
use Rattle.std.proofs.lemmas.Result.{IfOk-weaker}
use Rattle.fol_base.specs.Literal.{literal_of}
use Rattle.fol_base.specs.declared.clause.Clause.{Clause}
use Rattle.clausal_form.specs.Form.{form_of}
use Rattle.herbrand_list.specs.Refuted.{ground_clauses}
use Rattle.command_reports.specs.DecideReports.{origin_name, open_report, told_open}
use Rattle.commands.proofs.AboutGround.DecideLemmas.{form-literals, open-at, decision-reports}
use Rattle.commands.proofs.decide.decision_report.Goals as goal

pub returns-in-Some : goal.returns-in-Some
returns-in-Some c =
    let clauses = c.args.formed.now.form.clauses in
    IfOk-weaker c.not_ground.result _ _
    (λ report h.
    told_open (origin_name c.args.formed.now.problem.formulas c.in-Some.number)
    (open-at c.args.formed.now.problem.formulas (ground_clauses clauses) c.in-Some.number
    (form-literals c.args.formed.now.problem.formulas (form_of c.args.formed.now.form) clauses c.requires.form refl)
    (omega (arith, c.in-Some.ensures.within, length-map clauses (λ (d : Clause). map literal_of d.literals))) c.in-Some.ensures.open_one
    c.in-Some.ensures.first)
    h.0 (h.1 ∙ ap (open_report c.args.file.now) c.origin_name.ensures))
    c.not_ground.ensures

pub returns-in_ok-refuted-in-None : goal.returns-in_ok-refuted-in-None
returns-in_ok-refuted-in-None c =
    let clauses = c.args.formed.now.form.clauses in
    decision-reports c.decided.result c.args.file.now c.args.formed.now.problem.formulas (ground_clauses clauses) c.in_ok-refuted-in-None.refuted
    (form-literals c.args.formed.now.problem.formulas (form_of c.args.formed.now.form) clauses c.requires.form refl) c.in-None.ensures.none
    c.in_ok-refuted-in-None.ensures.refuted c.in_ok-refuted-in-None.ensures.model c.decided.ensures
