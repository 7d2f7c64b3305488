use Rattle.std.proofs.Common.{length, refl, ap, sym, ◌∙◌}
use Rattle.tptp_source.specs.SourceShape.{source_of}
use Rattle.tstp_checker.specs.declared.taken.TakenLines.{TakenLines}
use Rattle.tstp_checker.specs.ClauseLines.{is_component_kind}
use Rattle.tstp_lines.specs.Steps.{kind_meant}
use Rattle.tstp_checker.proofs.AboutVerdicts.VerdictLemmas.{named-by, formula-kind, formula-unnamed, clause-kind, clause-unnamed, names-same, all-next, all-counted, ok-so, err-so, component-next, component-counted, component-source}
use Rattle.tstp_checker.proofs.lines.Lines.verdict.Goals as goal

pub formula_verdict-requires-clause-formula : goal.formula_verdict-requires-clause-formula
formula_verdict-requires-clause-formula c = formula-kind c.kind_of-kind.result c.in-Input.is

pub clause_verdict-requires : goal.clause_verdict-requires
clause_verdict-requires c = record {
  ready = c.requires.ready;
  kind = c.kind_of-kind.ensures;
  no_formula = clause-kind c.kind_of-kind.result c.in_default.not-Input c.in_default.not-Negate;
  no_name = clause-unnamed c.kind_of-kind.result c.in_default.not-Component;
}

pub returns-in-Component-clause-verdict : goal.returns-in-Component-clause-verdict
returns-in-Component-clause-verdict c =
    c.component_verdict.ensures.verdict c.args.source.now
    (component-source (source_of c.args.source.now) _ (sym (ap kind_meant c.in-Component.is) ∙ c.kind_of-kind.ensures))

pub returns-in-Component-clause-introduced : goal.returns-in-Component-clause-introduced
returns-in-Component-clause-introduced c =
    named-by _ _ _ _ _ (sym (ap kind_meant c.in-Component.is) ∙ c.kind_of-kind.ensures) c.component_verdict.ensures.introduced

pub returns-in-Component-clause-next : goal.returns-in-Component-clause-next
returns-in-Component-clause-next c = component-next _ _ c.component_verdict.ensures.next

pub returns-in-Component-clause-count : goal.returns-in-Component-clause-count
returns-in-Component-clause-count c = component-counted _ _ _ _ c.component_verdict.ensures.next c.component_verdict.ensures.count

pub returns-in-Input-clause-introduced : goal.returns-in-Input-clause-introduced
returns-in-Input-clause-introduced c =
    ok-so _ _ (sym (names-same _ _ (ap is_component_kind (sym c.kind_of-kind.ensures) ∙ formula-unnamed c.kind_of-kind.result c.in-Input.is)))

pub returns-in-Input-clause-unchanged : goal.returns-in-Input-clause-unchanged
returns-in-Input-clause-unchanged c = err-so _ _ refl

pub returns-in-Input-clause-next : goal.returns-in-Input-clause-next
returns-in-Input-clause-next c = all-next _ _ c.formula_verdict.ensures.step

pub returns-in-Input-clause-count : goal.returns-in-Input-clause-count
returns-in-Input-clause-count c = all-counted _ _ _ refl c.formula_verdict.ensures.step

pub returns-in_default : goal.returns-in_default
returns-in_default c = record {
  verdict = c.clause_verdict.ensures.verdict;
  numbers = c.clause_verdict.ensures.numbers;
  introduced =
      ok-so _ _
      (ap (λ (x : TakenLines). x.introduced) c.clause_verdict.ensures.taken
      ∙ sym (names-same _ _ (ap is_component_kind (sym c.kind_of-kind.ensures) ∙ clause-unnamed c.kind_of-kind.result c.in_default.not-Component)));
  unchanged = err-so _ _ (ap (λ (x : TakenLines). x.introduced) c.clause_verdict.ensures.taken);
  next = all-next _ _ c.clause_verdict.ensures.step;
  count = all-counted _ _ _ (ap (λ (x : TakenLines). length x.introduced) c.clause_verdict.ensures.taken) c.clause_verdict.ensures.step;
  names = ap (λ (x : TakenLines). x.names) c.clause_verdict.ensures.taken;
  lines = ap (λ (x : TakenLines). x.lines) c.clause_verdict.ensures.taken;
  components = ap (λ (x : TakenLines). x.components) c.clause_verdict.ensures.taken;
  inputs = c.clause_verdict.ensures.inputs;
  classes = c.clause_verdict.ensures.classes;
  form = c.clause_verdict.ensures.form;
}
