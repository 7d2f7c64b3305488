use Rattle.std.proofs.Common.{map, ap, sym, ◌∙◌}
use Rattle.fol_base.specs.Literal.{clause_of}
use Rattle.tptp_source.specs.Shape.{tree_of}
use Rattle.clausal_form.specs.DerivationCauses.{concluded, gives_clause}
use Rattle.tstp_checker.specs.Lines.{setting_in, taken_in}
use Rattle.tstp_lines.specs.Steps.{kind_meant, bound_terms}
use Rattle.tstp_checker.proofs.AboutVerdicts.ClauseLineLemmas.{clause-compared, verdict-as}
use Rattle.tstp_checker.proofs.AboutVerdicts.RuleStepLemmas.{step-is}
use Rattle.tstp_checker.proofs.AboutVerdicts.RuleLineLemmas.{right_bindings, rule-unbound, rule-none, rule-gives, rule-refused}
use Rattle.tstp_checker.proofs.lines.Lines.rule_line.Goals as goal

pub returns-then-not-are_bound-clause-verdict : goal.returns-then-not-are_bound-clause-verdict
returns-then-not-are_bound-clause-verdict c = λ t kind l.
    rule-unbound (setting_in c.args.self.now) (taken_in c.args.self.now) t (kind_meant c.args.kind) (map tree_of c.args.items.now) c.args.parents.now c.args.parts kind l
    (c.if-not-are_bound.ensures ∙ ap (λ bs. right_bindings (taken_in c.args.self.now) (kind_meant c.args.kind) bs c.args.parents.now) c.as_slice.ensures)

pub returns-in_default-clause-verdict : goal.returns-in_default-clause-verdict
returns-in_default-clause-verdict c = λ t kind l.
    rule-none (setting_in c.args.self.now) (taken_in c.args.self.now) t (kind_meant c.args.kind) (map tree_of c.args.items.now) c.args.parents.now c.args.parts kind l
    (c.if-not-are_bound.ensures ∙ ap (λ bs. right_bindings (taken_in c.args.self.now) (kind_meant c.args.kind) bs c.args.parents.now) c.as_slice.ensures)
    (sym c.in_default.is ∙ c.in_ok-read.ensures)

pub concluded-requires : goal.concluded-requires
concluded-requires c =
    step-is (kind_meant c.args.kind) c.args.self.now.taken.introduced (map tree_of c.args.items.now) c.args.parents.now (map bound_terms c.args.parts.bindings) c.in-Some.step
    (sym (sym c.in-Some.is ∙ c.in_ok-read.ensures))

pub returns-in-Err-clause-verdict : goal.returns-in-Err-clause-verdict
returns-in-Err-clause-verdict c = λ t kind l.
    rule-refused (setting_in c.args.self.now) (taken_in c.args.self.now) t (kind_meant c.args.kind) (map tree_of c.args.items.now) c.args.parents.now c.args.parts c.in-Some.step _ kind l
    (c.if-not-are_bound.ensures ∙ ap (λ bs. right_bindings (taken_in c.args.self.now) (kind_meant c.args.kind) bs c.args.parents.now) c.as_slice.ensures)
    (sym c.in-Some.is ∙ c.in_ok-read.ensures) c.in-Err.ensures

pub returns-in-Ok-clause-verdict : goal.returns-in-Ok-clause-verdict
returns-in-Ok-clause-verdict c = λ t kind l.
    verdict-as _ _ _
    (rule-gives (setting_in c.args.self.now) (taken_in c.args.self.now) t (kind_meant c.args.kind) (map tree_of c.args.items.now) c.args.parents.now c.args.parts c.in-Some.step
    (gives_clause c.in-Some.step (clause_of c.in-Ok.concluded)) kind l
    (c.if-not-are_bound.ensures ∙ ap (λ bs. right_bindings (taken_in c.args.self.now) (kind_meant c.args.kind) bs c.args.parents.now) c.as_slice.ensures)
    (sym c.in-Some.is ∙ c.in_ok-read.ensures) (ap (concluded c.in-Some.step) c.in-Ok.ensures)
    ∙ clause-compared (setting_in c.args.self.now) (taken_in c.args.self.now) t (map tree_of c.args.items.now) c.args.parents.now c.args.parts c.in-Some.step
    (clause_of c.in-Ok.concluded) l)
    c.line_if_same.ensures.verdict
