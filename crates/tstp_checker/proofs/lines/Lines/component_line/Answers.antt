use Rattle.std.proofs.Common.{◌≡◌, true, ◌||◌, [], ap, sym, ◌∙◌, not}
use Rattle.std.specs.Prelude.{bytes_eq}
use Rattle.std.specs.List.{list_any, list_all}
use Rattle.fol_base.specs.Literal.{clause_of}
use Rattle.tptp_tree.specs.Shape.{entry_of}
use Rattle.tptp_tree.specs.Shape.{formula_of}
use Rattle.tptp_source.specs.SourceShape.{source_of}
use Rattle.signature.specs.Symbol.{has_symbol}
use Rattle.kernel_steps.specs.declared.step.Step.TheVariants.{Component}
use Rattle.clausal_form.specs.DerivationClause.{ordinary_literals, symbols_in, numbering, clause_by}
use Rattle.clausal_form.specs.DerivationLine.{NamedLine}
use Rattle.tstp_checker.specs.Lines.{setting_in, taken_in}
use Rattle.tstp_checker.proofs.AboutVerdicts.ClauseLineLemmas.{line_unless, verdict-as}
use Rattle.tstp_checker.proofs.AboutVerdicts.ComponentLemmas.{component-so}
use Rattle.tstp_checker.proofs.lines.Lines.component_line.Goals.{then-parts, else-parts}
use Rattle.tstp_checker.proofs.lines.Lines.component_line.Goals as goal

pub returns-clause-verdict : goal.returns-clause-verdict
returns-clause-verdict c = λ e source l.
    let is_new : c.if-parts.line_by ≡ (c.in_ok-parts.parts.has_new_symbol || c.args.is_old) = elim c.if-parts.branch [
      | then-parts w ↦ w.line_by-is ∙ w.if-parts.true ∙ sym (ap (λ b. b || c.args.is_old) w.if-parts.true)
      | else-parts w ↦ w.line_by-is ∙ sym (ap (λ b. b || c.args.is_old) w.if-parts.false)
    ] in
    verdict-as _ _ _
    (component-so (setting_in c.args.self.now) e (taken_in c.args.self.now) (entry_of c.args.entry.now) (source_of source) c.args.number c.args.is_old
    (clause_of c.in_ok-parts.parts.clause) true c.in_ok-parts.parts.has_new_symbol l
    c.if-not-is_written.ensures
    (c.if-has.ensures.value ∙ ap (λ n. list_any (λ (k : NamedLine). bytes_eq n k.name) (taken_in c.args.self.now).lines) c.as_slice.ensures)
    (c.in_ok-parts.ensures.clause
    ∙ ap (λ ks. clause_by (numbering ks (ordinary_literals c.args.self.now.taken.introduced (formula_of c.args.entry.now.formula)) [])
    c.args.self.now.taken.introduced (formula_of c.args.entry.now.formula)) c.requires.symbols)
    c.if-not-is_component.ensures
    (c.in_ok-parts.ensures.new_symbol
    ∙ ap (λ ks. not (list_all (λ x. has_symbol x ks) (symbols_in (ordinary_literals c.args.self.now.taken.introduced (formula_of c.args.entry.now.formula)) [])))
    c.requires.symbols)
    ∙ ap (line_unless (Component c.args.number) (clause_of c.in_ok-parts.parts.clause)) (sym is_new))
    c.line_by.ensures.verdict
