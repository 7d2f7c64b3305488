use Rattle.std.proofs.Common.{Err, ap, sym, ◌∙◌, subst}
use Rattle.std.proofs.lemmas.Result.{IfOk-weaker}
use Rattle.fol_base.specs.Tree.{Tree}
use Rattle.kernel_steps.specs.Derivation.{IsRefutation}
use Rattle.signature.specs.Form.{ClausalForm}
use Rattle.clausal_form.specs.FormFunctions.{functions_of}
use Rattle.herbrand_list.specs.Answer.{IsGroundAnswer}
use Rattle.herbrand_list.specs.GroundList.{first_constant}
use Rattle.command_reports.specs.GroundReports.{form_constant, told_names, told_large}
use Rattle.commands.proofs.AboutGround.LineLemmas.{lines-refute}
use Rattle.commands.proofs.AboutGround.ListingLemmas.{list-told}
use Rattle.commands.proofs.ground.accepted_report.Goals as goal

pub ground_list-requires : goal.ground_list-requires
ground_list-requires c =
    subst (λ (f : ClausalForm). IsRefutation f.clauses c.args.lines.now) (sym c.requires.form)
    (lines-refute c.args.formed.now.problem.formulas c.args.text.now c.args.lines.now c.requires.accepted)

pub returns-in-Ok : goal.returns-in-Ok
returns-in-Ok c =
    let told =
    subst (λ (k : Tree). IsGroundAnswer k c.args.lines.now c.ground_list.result)
    (ap (λ (f : ClausalForm). first_constant (functions_of f.symbols)) c.requires.form) c.ground_list.ensures in
    let listed = subst (IsGroundAnswer (form_constant c.args.formed.now.problem.formulas) c.args.lines.now) c.in-Ok.is told in
    IfOk-weaker c.listed.result _ _
    (λ report h.
    list-told c.args.formed.now.problem.formulas c.args.text.now c.args.lines.now c.in-Ok.list c.as_slice.result.now report.status report.text
    (record { accepted = c.requires.accepted; no_names = listed.0 }) listed.1 listed.2
    (c.as_slice.ensures ∙ ap (λ (f : ClausalForm). f.symbols) c.requires.form) h.0 h.1)
    c.listed.ensures

pub returns-in-Err-Names : goal.returns-in-Err-Names
returns-in-Err-Names c =
    let told =
    subst (λ (k : Tree). IsGroundAnswer k c.args.lines.now c.ground_list.result)
    (ap (λ (f : ClausalForm). first_constant (functions_of f.symbols)) c.requires.form) c.ground_list.ensures in
    let named =
    subst (IsGroundAnswer (form_constant c.args.formed.now.problem.formulas) c.args.lines.now) (c.in-Err-Names.is ∙ ap Err c.in-Err-Names.field-0-is) told in
    IfOk-weaker c.names_met.result _ _
    (λ report h.
    told_names c.in-Err-Names.line (record { lines = c.args.lines.now; accepted = c.requires.accepted; first = named }) h.0 h.1)
    c.names_met.ensures

pub returns-in-Err-Large : goal.returns-in-Err-Large
returns-in-Err-Large c =
    let told =
    subst (λ (k : Tree). IsGroundAnswer k c.args.lines.now c.ground_list.result)
    (ap (λ (f : ClausalForm). first_constant (functions_of f.symbols)) c.requires.form) c.ground_list.ensures in
    let large =
    subst (IsGroundAnswer (form_constant c.args.formed.now.problem.formulas) c.args.lines.now) (c.in-Err-Large.is ∙ ap Err c.in-Err-Large.field-0-is) told in
    IfOk-weaker c.large.result _ _
    (λ report h.
    told_large
    (record {
      lines = c.args.lines.now;
      nameless = record { accepted = c.requires.accepted; no_names = large.0 };
      heavy = large.1;
    }) h.0 h.1)
    c.large.ensures
