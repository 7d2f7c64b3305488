use Rattle.std.proofs.Common.{subst}
use Rattle.fol_base.specs.Literal.{clause_of}
use Rattle.unit_cutting.specs.CutSteps.{CutsNone, IsCutStep}
use Rattle.unit_cutting.proofs.AboutCuts.CutByLemmas.{cut-once}
use Rattle.unit_cutting.proofs.cutting.cut_unit.Goals as goal

pub returns-then-branch : goal.returns-then-branch
returns-then-branch c =
    cut-once c.args.unit.now (clause_of c.args.clause.now) c.in_ok-reduced.reduced c.cut_by.new.reduced c.in_ok-reduced.ensures.reduced
    c.in_ok-reduced.ensures.same c.in_ok-reduced.ensures.no_lines
    (subst (λ b. IsCutStep c.args.unit.now c.in_ok-reduced.reduced c.cut_by.new.reduced b) c.if-branch.true c.in_ok-cut_by.ensures.step)

pub returns-else-branch : goal.returns-else-branch
returns-else-branch c =
    subst (λ d. CutsNone c.args.unit.now d) c.in_ok-reduced.ensures.same
    (subst (λ b. IsCutStep c.args.unit.now c.in_ok-reduced.reduced c.cut_by.new.reduced b) c.if-branch.false c.in_ok-cut_by.ensures.step).1
