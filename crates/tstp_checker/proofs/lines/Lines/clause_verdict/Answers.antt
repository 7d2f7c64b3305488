use Rattle.std.proofs.Common.{map, ap, sym, ◌∙◌}
use Rattle.tptp_source.specs.Shape.{tree_of}
use Rattle.clausal_form.specs.DerivationLine.{names_with}
use Rattle.tstp_checker.specs.Lines.{line_meant, setting_in, taken_in}
use Rattle.tstp_checker.specs.ClauseLines.{is_component_kind}
use Rattle.tstp_lines.specs.Steps.{kind_meant}
use Rattle.tstp_checker.proofs.AboutVerdicts.VerdictLemmas.{passed, if-answered, same-numbers, names-same, no-old-name, bound-read, parts-read, clause-unwritten, clause-parents-refused, clause-judged}
use Rattle.tstp_checker.proofs.lines.Lines.clause_verdict.Goals as goal

pub returns-then-not-is_written-clause-verdict : goal.returns-then-not-is_written-clause-verdict
returns-then-not-is_written-clause-verdict c =
    clause-unwritten (setting_in c.args.self.now) (taken_in c.args.self.now) (line_meant c.args.entry.now c.args.source.now) (kind_meant c.args.kind)
    (sym c.requires.kind) c.requires.no_formula c.requires.no_name c.if-not-is_written.ensures

pub returns-in_err-parents-clause-verdict : goal.returns-in_err-parents-clause-verdict
returns-in_err-parents-clause-verdict c =
    passed _ _ _ c.from_residual.ensures.1
    (clause-parents-refused (setting_in c.args.self.now) (taken_in c.args.self.now) (line_meant c.args.entry.now c.args.source.now) (kind_meant c.args.kind) _
    (sym c.requires.kind) c.requires.no_formula c.requires.no_name c.if-not-is_written.ensures c.in_err-parents.ensures)

pub returns-clause-verdict : goal.returns-clause-verdict
returns-clause-verdict c =
    clause-judged (setting_in c.args.self.now) (taken_in c.args.self.now) (line_meant c.args.entry.now c.args.source.now) (kind_meant c.args.kind)
    c.in_ok-parents.parents _ (sym c.requires.kind) c.requires.no_formula c.requires.no_name c.if-not-is_written.ensures c.in_ok-parents.ensures
    (c.clause_line.ensures.verdict (line_meant c.args.entry.now c.args.source.now) (sym c.requires.kind)
    (record {
      its_items = sym c.items_of.ensures;
      its_parents = sym (c.as_slice.ensures ∙ c.in_ok-parents.ensures.1);
      its_parts =
          parts-read (setting_in c.args.self.now) (taken_in c.args.self.now) (line_meant c.args.entry.now c.args.source.now)
          c.args.self.now.numbers.symbols c.args.self.now.taken.introduced (map tree_of c.bound_items.result.now) c.in_ok-parts.parts
          c.requires.ready.symbols
          (sym (names-same c.args.self.now.taken.introduced (kind_meant c.args.kind) c.requires.no_name) ∙ ap (names_with c.args.self.now.taken.introduced) c.requires.kind)
          (bound-read (line_meant c.args.entry.now c.args.source.now) (kind_meant c.args.kind) _ (sym c.requires.kind) c.bound_items.ensures)
          c.in_ok-parts.ensures.clause c.in_ok-parts.ensures.bindings c.in_ok-parts.ensures.new_symbol;
      no_old_name =
          no-old-name (setting_in c.args.self.now) (taken_in c.args.self.now) _ (ap is_component_kind (sym c.requires.kind) ∙ c.requires.no_name);
    }))

pub returns-clause-numbers : goal.returns-clause-numbers
returns-clause-numbers c =
    if-answered _ _ (same-numbers c.args.self.now.numbers _ c.in_ok-parts.ensures.symbols (c.in_ok-parts.ensures.variables ∙ sym c.requires.ready.variables))
