use Rattle.std.proofs.Common.{Bool, List, ap, subst, ◌∙◌, Some}
use Rattle.std.specs.Prelude.{IfOk}
use Rattle.std.specs.Option.{option_copied}
use Rattle.std.proofs.lemmas.Result.{IfOk-weaker}
use Rattle.tptp_tree.specs.declared.problem.Annotated.{Annotated}
use Rattle.clausal_form.specs.Form.{form_of}
use Rattle.laws_meaning.specs.Meaning.{has_conjecture}
use Rattle.pool_history.specs.Replay.{replay}
use Rattle.command_reports.specs.Parts.{inputs_by}
use Rattle.command_reports.specs.ProveReports.{told_refuted, told_spent, told_heavy, refuted_report}
use Rattle.commands.specs.AnswerShape.{OutcomeSays}
use Rattle.commands.proofs.AboutOutcomes.HistoryLemmas.{heavy-there, is-heavy, is-spent}
use Rattle.commands.proofs.AboutOutcomes.ReportLemmas.{IsWholeReport, IsPartReport, begins-with, begun-numbered, is-refuted, saturation-reports}
use Rattle.commands.proofs.AboutOutcomes.SaturatedLemmas.{is-saturation}
use Rattle.commands.proofs.prove.proof_report.Goals as goal

pub derivation_text-requires-clause-refuted : goal.derivation_text-requires-clause-refuted
derivation_text-requires-clause-refuted c = c.requires.proved.pool.outcome ∙ ap Some c.in-Refuted.is

pub derivation_text-requires-clause-numbered : goal.derivation_text-requires-clause-numbered
derivation_text-requires-clause-numbered c =
    begun-numbered c.args.formed.now.problem.formulas c.args.options c.args.proved.now c.requires.proved (option_copied c.args.beginning.numbers)
    c.requires.begins.0

pub heavy_key-requires : goal.heavy_key-requires
heavy_key-requires c =
    let inputs = inputs_by c.args.options.axioms c.args.formed.now.problem.formulas in
    heavy-there c.args.formed.now.problem.formulas inputs (begins-with c.args.options.axioms c.args.formed.now.problem.formulas)
    c.args.options.pool c.args.proved.now c.requires.proved c.in-Heavy.place
    (subst (OutcomeSays c.args.formed.now.problem.formulas inputs c.args.options.pool (replay c.args.proved.now.pool.origin c.args.proved.now.pool.history))
    c.in-Heavy.is c.requires.says)

pub returns-in_ok-derivation-in-Refuted : goal.returns-in_ok-derivation-in-Refuted
returns-in_ok-derivation-in-Refuted c =
    let inputs = inputs_by c.args.options.axioms c.args.formed.now.problem.formulas in
    let told = c.has_conjecture.ensures ∙ ap has_conjecture c.as_slice-formulas.ensures in
    IfOk-weaker c.refuted.result _ _
    (λ report h.
    told_refuted c.in_ok-derivation-in-Refuted.derivation
    (is-refuted c.args.formed.now.problem.formulas c.args.options c.args.proved.now c.requires.proved c.args.file.now
    c.in_ok-derivation-in-Refuted.derivation (option_copied c.args.beginning.numbers) c.in-Refuted.is
    (subst (OutcomeSays c.args.formed.now.problem.formulas inputs c.args.options.pool (replay c.args.proved.now.pool.origin c.args.proved.now.pool.history))
    c.in-Refuted.is c.requires.says)
    c.requires.admissible.closed c.requires.begins.0 c.in_ok-derivation-in-Refuted.ensures.written
    c.in_ok-derivation-in-Refuted.ensures.accepted)
    h.0 (h.1 ∙ ap (λ (b : Bool). refuted_report c.args.file.now b c.in_ok-derivation-in-Refuted.derivation) told))
    c.refuted.ensures

pub returns-in-Spent : goal.returns-in-Spent
returns-in-Spent c =
    let inputs = inputs_by c.args.options.axioms c.args.formed.now.problem.formulas in
    IfOk-weaker c.spent.result _ _
    (λ report h.
    told_spent c.in-Spent.count
    (is-spent c.args.formed.now.problem.formulas inputs (begins-with c.args.options.axioms c.args.formed.now.problem.formulas)
    c.args.options.pool c.args.proved.now c.requires.proved c.in-Spent.count c.in-Spent.is
    (subst (OutcomeSays c.args.formed.now.problem.formulas inputs c.args.options.pool (replay c.args.proved.now.pool.origin c.args.proved.now.pool.history))
    c.in-Spent.is c.requires.says))
    h.0 h.1)
    c.spent.ensures

pub returns-in_ok-key-in-Heavy : goal.returns-in_ok-key-in-Heavy
returns-in_ok-key-in-Heavy c =
    let inputs = inputs_by c.args.options.axioms c.args.formed.now.problem.formulas in
    IfOk-weaker c.heavy.result _ _
    (λ report h.
    told_heavy c.in_ok-key-in-Heavy.key
    (is-heavy c.args.formed.now.problem.formulas inputs (begins-with c.args.options.axioms c.args.formed.now.problem.formulas)
    c.args.options.pool c.args.proved.now c.requires.proved c.in-Heavy.place c.heavy_key.result.now c.in_ok-key-in-Heavy.key c.in-Heavy.is
    (subst (OutcomeSays c.args.formed.now.problem.formulas inputs c.args.options.pool (replay c.args.proved.now.pool.origin c.args.proved.now.pool.history))
    c.in-Heavy.is c.requires.says)
    c.heavy_key.ensures c.in_ok-key-in-Heavy.ensures)
    h.0 h.1)
    c.heavy.ensures

pub returns-in_ok-members-in-Saturated : goal.returns-in_ok-members-in-Saturated
returns-in_ok-members-in-Saturated c =
    let inputs = inputs_by c.args.options.axioms c.args.formed.now.problem.formulas in
    saturation-reports c.saturation_report.result c.args.file.now c.args.formed.now.problem.formulas c.args.options
    c.in_ok-members-in-Saturated.members c.args.beginning.left_out c.requires.begins.1
    (is-saturation c.args.formed.now.problem.formulas inputs (begins-with c.args.options.axioms c.args.formed.now.problem.formulas)
    c.args.options.pool c.args.proved.now c.requires.proved c.in-Saturated.is c.members_have_met.ensures
    (subst (OutcomeSays c.args.formed.now.problem.formulas inputs c.args.options.pool (replay c.args.proved.now.pool.origin c.args.proved.now.pool.history))
    c.in-Saturated.is c.requires.says)
    (form_of c.args.formed.now.form) c.requires.form c.in_ok-members-in-Saturated.members c.in_ok-members-in-Saturated.ensures)
    (λ none.
    subst (λ (fs : List Annotated). IfOk c.saturation_report.result (IsWholeReport c.args.file.now fs c.in_ok-members-in-Saturated.members))
    c.as_slice-formulas.ensures (c.saturation_report.ensures.whole none))
    (λ some.
    subst
    (λ (fs : List Annotated). IfOk c.saturation_report.result (IsPartReport c.args.file.now fs c.args.beginning.left_out c.in_ok-members-in-Saturated.members))
    c.as_slice-formulas.ensures (c.saturation_report.ensures.part some))
