use Rattle.std.proofs.Common.{◌≡◌, ℕ, ◌-◌, List, length, Some, ap, sym, ◌∙◌, subst}
use Rattle.std.specs.Prelude.{Option}
use Rattle.fol_base.specs.Clause.{TreeClause}
use Rattle.tptp_tree.specs.declared.problem.Annotated.{Annotated}
use Rattle.command_reports.specs.Parts.{part_clauses, part_numbers, kept_by, inputs_by, numbers_by, left_out}
use Rattle.commands.specs.AnswerShape.{IsProvedForm, PoolSays}
use Rattle.command_words.specs.declared.command.AxiomSelection.{AxiomSelection}
use Rattle.commands.proofs.prove.part_report.Goals as goal

pub proof_report-requires-clause-proved : goal.proof_report-requires-clause-proved
proof_report-requires-clause-proved g c =
    subst (λ (cs : List TreeClause). IsProvedForm c.args.formed.now.problem.formulas cs c.args.options.pool c.in_ok-part.part.proved)
    (ap (λ (kept : List ℕ). part_clauses kept c.args.formed.now.problem.formulas) c.in_ok-kept.ensures
    ∙ ap (λ (axioms : Option AxiomSelection). inputs_by axioms c.args.formed.now.problem.formulas) (sym c.requires.selected))
    c.in_ok-part.ensures.ended

pub proof_report-requires-clause-says : goal.proof_report-requires-clause-says
proof_report-requires-clause-says g c =
    subst (λ (cs : List TreeClause). PoolSays c.args.formed.now.problem.formulas cs c.args.options.pool c.in_ok-part.part.proved)
    (ap (λ (kept : List ℕ). part_clauses kept c.args.formed.now.problem.formulas) c.in_ok-kept.ensures
    ∙ ap (λ (axioms : Option AxiomSelection). inputs_by axioms c.args.formed.now.problem.formulas) (sym c.requires.selected))
    c.in_ok-part.ensures.says

-- how many are left out, by the places that are kept
left-by-kept :
    (axioms : Option AxiomSelection) (selection : AxiomSelection) (formulas : List Annotated) (kept : List ℕ) (left all some : ℕ)
    → axioms ≡ Some selection → kept ≡ kept_by selection formulas → left ≡ all - some → all ≡ length formulas → some ≡ length kept
    → left ≡ left_out axioms formulas
left-by-kept axioms selection formulas kept left all some selected is e f g =
    e ∙ ap (λ n. n - some) f ∙ ap (λ n. length formulas - n) (g ∙ ap length is) ∙ ap (λ (a : Option AxiomSelection). left_out a formulas) (sym selected)

pub proof_report-requires-clause-begins : goal.proof_report-requires-clause-begins
proof_report-requires-clause-begins g c = (
  ap Some
      (c.in_ok-part.ensures.numbers ∙ ap (λ (kept : List ℕ). part_numbers kept c.args.formed.now.problem.formulas) c.in_ok-kept.ensures)
      ∙ ap (λ (axioms : Option AxiomSelection). numbers_by axioms c.args.formed.now.problem.formulas) (sym c.requires.selected),
  left-by-kept c.args.options.axioms c.args.selection c.args.formed.now.problem.formulas c.in_ok-kept.kept c.saturating_sub-left_out.result c.len.result
      c.len-2.result c.requires.selected c.in_ok-kept.ensures c.saturating_sub-left_out.ensures c.len.ensures c.len-2.ensures,
)
