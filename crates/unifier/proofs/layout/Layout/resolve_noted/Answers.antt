use Rattle.std.proofs.Common.{take, ap, subst, ◌∙◌}
use Rattle.std.proofs.lemmas.List.{take_all}
use Rattle.unifier.specs.Resolving.{AreResolved}
use Rattle.unifier.proofs.AboutEquations.ResolveLemmas.{nothing-resolved, more-noted-resolved}
use Rattle.unifier.proofs.layout.Layout.resolve_noted.Goals as goal

pub loop-code-init : goal.loop-code-init
loop-code-init c = nothing-resolved c.args.apart c.args.equations.now c.args.self.now c.requires

pub resolve_variable-requires : goal.resolve_variable-requires
resolve_variable-requires c = c.loop-code.invariant.resolving

pub loop-code-preserved : goal.loop-code-preserved
loop-code-preserved c =
    more-noted-resolved c.args.apart c.args.equations.now c.args.self.now c.loop-code.self c.resolve_variable.new.self
    (take c.min.result c.args.equations.now.noted) c.loop-code.code-index c.in_ok-cell.cell c.loop-code-test.true
    c.loop-code.invariant c.in_ok-cell.ensures c.if-is_none.ensures

pub returns : goal.returns
returns c = λ yes.
    subst (AreResolved c.args.apart c.args.equations.now c.args.self.now c.loop-code.self)
    (take_all c.loop-code.code-index (take c.min.result c.args.equations.now.noted) c.loop-code-test.false
    ∙ ap (λ k. take k c.args.equations.now.noted) c.min.ensures)
    c.loop-code.invariant
