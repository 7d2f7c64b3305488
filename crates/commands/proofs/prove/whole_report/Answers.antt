use Rattle.std.proofs.Common.{List, inl, ap, sym, ◌∙◌, subst}
use Rattle.std.specs.Prelude.{Option}
use Rattle.fol_base.specs.Clause.{TreeClause}
use Rattle.signature.specs.Form.{ClausalForm}
use Rattle.command_reports.specs.Parts.{inputs_by, numbers_by, left_out}
use Rattle.commands.specs.AnswerShape.{IsProvedForm, PoolSays}
use Rattle.command_words.specs.declared.command.AxiomSelection.{AxiomSelection}
use Rattle.commands.proofs.prove.whole_report.Goals as goal

pub prove_form-requires-clause-inputs : goal.prove_form-requires-clause-inputs
prove_form-requires-clause-inputs g c = λ κs within. inl (ap (λ (f : ClausalForm). f.clauses) c.requires.form)

pub proof_report-requires-clause-proved : goal.proof_report-requires-clause-proved
proof_report-requires-clause-proved g c =
    subst (λ (cs : List TreeClause). IsProvedForm c.args.formed.now.problem.formulas cs c.args.options.pool c.in_ok-proved.proved)
    (ap (λ (f : ClausalForm). f.clauses) c.requires.form
    ∙ ap (λ (axioms : Option AxiomSelection). inputs_by axioms c.args.formed.now.problem.formulas) (sym c.requires.whole))
    c.in_ok-proved.ensures.proved

pub proof_report-requires-clause-says : goal.proof_report-requires-clause-says
proof_report-requires-clause-says g c =
    subst (λ (cs : List TreeClause). PoolSays c.args.formed.now.problem.formulas cs c.args.options.pool c.in_ok-proved.proved)
    (ap (λ (f : ClausalForm). f.clauses) c.requires.form
    ∙ ap (λ (axioms : Option AxiomSelection). inputs_by axioms c.args.formed.now.problem.formulas) (sym c.requires.whole))
    c.in_ok-proved.ensures.says

pub proof_report-requires-clause-begins : goal.proof_report-requires-clause-begins
proof_report-requires-clause-begins g c = (
  ap (λ (axioms : Option AxiomSelection). numbers_by axioms c.args.formed.now.problem.formulas) (sym c.requires.whole),
  ap (λ (axioms : Option AxiomSelection). left_out axioms c.args.formed.now.problem.formulas) (sym c.requires.whole),
)
