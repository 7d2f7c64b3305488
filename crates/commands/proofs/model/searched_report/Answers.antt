use Rattle.std.proofs.Common.{Bool, ap, subst, sym, ◌∙◌}
use Rattle.std.proofs.lemmas.Result.{IfOk-weaker}
use Rattle.clausal_form.specs.Form.{form_of}
use Rattle.laws_meaning.specs.Meaning.{has_conjecture}
use Rattle.finite_models.specs.Model.{IsOverSignature}
use Rattle.command_reports.specs.ModelReports.{told_model, told_no_model, told_too_large, found_report}
use Rattle.commands.proofs.AboutOutcomes.ModelLemmas.{forms-are-over-signatures, is-found-model, has-no-model-to, is-too-large-at}
use Rattle.commands.proofs.model.searched_report.Goals as goal

pub find_model-requires-clause-form : goal.find_model-requires-clause-form
find_model-requires-clause-form c = subst IsOverSignature (sym c.requires.form) (forms-are-over-signatures c.args.formed.now.problem.formulas)

pub returns-in_ok-table-in-Model : goal.returns-in_ok-table-in-Model
returns-in_ok-table-in-Model c =
    let told = c.has_conjecture-conjecture.ensures ∙ ap has_conjecture c.as_slice.ensures in
    IfOk-weaker c.found.result _ _
    (λ report h.
    told_model c.in_ok-table-in-Model.table
    (is-found-model c.args.formed.now.problem.formulas c.args.most (form_of c.args.formed.now.form) _ c.requires.form c.requires.admissible.closed
    c.in_ok-model.ensures c.in-Model.model c.in_ok-table-in-Model.table c.in-Model.is c.in_ok-table-in-Model.ensures)
    h.0 (h.1 ∙ ap (λ (b : Bool). found_report c.args.file.now b c.in_ok-table-in-Model.table) told))
    c.found.ensures

pub returns-in-NoModel : goal.returns-in-NoModel
returns-in-NoModel c =
    IfOk-weaker c.no_model.result _ _
    (λ report h.
    told_no_model
    (has-no-model-to c.args.formed.now.problem.formulas c.args.most (form_of c.args.formed.now.form) _ c.requires.form c.requires.admissible.closed
    c.in_ok-model.ensures c.in-NoModel.is)
    h.0 h.1)
    c.no_model.ensures

pub returns-in-TooLarge : goal.returns-in-TooLarge
returns-in-TooLarge c =
    IfOk-weaker c.too_large.result _ _
    (λ report h.
    told_too_large c.in-TooLarge.size
    (is-too-large-at c.args.formed.now.problem.formulas c.args.most (form_of c.args.formed.now.form) _ c.requires.form
    c.requires.admissible.closed c.in_ok-model.ensures c.in-TooLarge.size c.in-TooLarge.is)
    h.0 h.1)
    c.too_large.ensures
