use Rattle.std.proofs.Common.{ap, sym, ◌∙◌}
use Rattle.kernel_steps.specs.Derivation.{line_parents}
use Rattle.clausal_form.specs.DerivationParts.{parent_lines}
use Rattle.clausal_form.specs.DerivationCauses.{is_bound}
use Rattle.tstp_checker.specs.Lines.{taken_in}
use Rattle.tstp_checker.proofs.AboutDerivations.TakenLemmas.{lines-of}
use Rattle.tstp_checker.proofs.AboutVerdicts.RuleLineLemmas.{Bound, bound-starts, bound-next, bound-none, bound-ends}
use Rattle.tstp_checker.proofs.lines.Lines.are_bound_to.Goals as goal

pub loop-bind-init : goal.loop-bind-init
loop-bind-init c = bound-starts (λ (b : Bound). is_bound b.0 (parent_lines (taken_in c.args.self.now) b.1)) c.args.bindings.now c.args.parents.now

pub returns-in_default : goal.returns-in_default
returns-in_default c =
    bound-none (λ (b : Bound). is_bound b.0 (parent_lines (taken_in c.args.self.now) b.1)) c.args.bindings.now c.loop-bind.bind-index
    c.bind-item.result c.loop-bind.left.now _ c.loop-bind-test.true c.bind-item.is (rw c.in_default.is at c.split_first.ensures.cases)
    c.loop-bind.invariant

pub returns-then-not-is_bound : goal.returns-then-not-is_bound
returns-then-not-is_bound c =
    bound-next (λ (b : Bound). is_bound b.0 (parent_lines (taken_in c.args.self.now) b.1)) c.args.bindings.now c.loop-bind.bind-index
    c.bind-item.result c.loop-bind.left.now c.in-Some.others.now c.in-Some.place.now _ _ c.loop-bind-test.true c.bind-item.is c.in-Some.ensures.cases.0
    (c.if-not-is_bound.ensures
    ∙ ap (is_bound c.bind-item.result)
    (c.parent.ensures ∙ ap (λ ls. line_parents ls c.in-Some.place.now) (sym (lines-of c.args.self.now.taken.names c.args.self.now.taken.lines))))
    c.loop-bind.invariant

pub loop-bind-preserved : goal.loop-bind-preserved
loop-bind-preserved c =
    bound-next (λ (b : Bound). is_bound b.0 (parent_lines (taken_in c.args.self.now) b.1)) c.args.bindings.now c.loop-bind.bind-index
    c.bind-item.result c.loop-bind.left.now c.in-Some.others.now c.in-Some.place.now _ _ c.loop-bind-test.true c.bind-item.is c.in-Some.ensures.cases.0
    (c.if-not-is_bound.ensures
    ∙ ap (is_bound c.bind-item.result)
    (c.parent.ensures ∙ ap (λ ls. line_parents ls c.in-Some.place.now) (sym (lines-of c.args.self.now.taken.names c.args.self.now.taken.lines))))
    c.loop-bind.invariant

pub returns : goal.returns
returns c =
    bound-ends (λ (b : Bound). is_bound b.0 (parent_lines (taken_in c.args.self.now) b.1)) c.args.bindings.now c.loop-bind.bind-index
    c.loop-bind.left.now _ c.loop-bind-test.false c.loop-bind.invariant
