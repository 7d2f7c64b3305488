use Rattle.std.proofs.Common.{map, take, ap, subst, ◌∙◌}
use Rattle.std.proofs.lemmas.List.{take_all}
use Rattle.unifier.specs.declared.equation.Equation.{Equation}
use Rattle.unifier.specs.Resolving.{AreResolved}
use Rattle.unifier.proofs.AboutEquations.ResolveLemmas.{nothing-resolved, more-equations-resolved}
use Rattle.unifier.proofs.layout.Layout.resolve_equations.Goals as goal

pub loop-equation-init : goal.loop-equation-init
loop-equation-init c = nothing-resolved c.args.apart c.args.equations.now c.args.self.now c.requires

pub resolve_variable-requires : goal.resolve_variable-requires
resolve_variable-requires c = c.loop-equation.invariant.resolving

pub loop-equation-preserved : goal.loop-equation-preserved
loop-equation-preserved c =
    more-equations-resolved c.args.apart c.args.equations.now c.args.self.now c.loop-equation.self c.resolve_variable.new.self
    (take c.min.result c.args.equations.now.items) c.loop-equation.equation-index c.equation-item.result c.in_ok-cell.cell c.loop-equation-test.true
    c.equation-item.is c.loop-equation.invariant c.in_ok-cell.ensures c.if-is_none.ensures

pub returns : goal.returns
returns c = λ yes.
    subst (AreResolved c.args.apart c.args.equations.now c.args.self.now c.loop-equation.self)
    (ap (map (λ (e : Equation). e.code))
    (take_all c.loop-equation.equation-index (take c.min.result c.args.equations.now.items) c.loop-equation-test.false
    ∙ ap (λ k. take k c.args.equations.now.items) c.min.ensures))
    c.loop-equation.invariant
