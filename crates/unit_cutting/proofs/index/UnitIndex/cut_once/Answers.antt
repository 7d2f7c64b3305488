use Rattle.std.proofs.Common.{◌≡◌, false, not, Some, sym, ◌∙◌, subst, arith}
use Rattle.std.specs.Prelude.{slice_get}
use Rattle.fol_base.specs.Lent.{lent_of}
use Rattle.fol_base.specs.Literal.{clause_of}
use Rattle.kernel_steps.specs.declared.step.Reduced.{Reduced}
use Rattle.unit_cutting.specs.Indexed.{HasCandidates}
use Rattle.unit_cutting.specs.Cuts.{SignedCutsNone, IsCutOrNoneOf}
use Rattle.unit_cutting.proofs.CutLemmas.{none-of-all, none-over, one-more}
use Rattle.unit_cutting.proofs.index.UnitIndex.cut_once.Goals as goal

pub loop-index-preserved : goal.loop-index-preserved
loop-index-preserved c =
    let units = c.args.self.now in
    let out = c.args.left_out in
    let sign = not (lent_of c.literal-literal.result).positive in
    let d = clause_of c.args.reduced.now.clause in
    let here = lent_of c.literal-literal.result in
    let numbers = c.as_slice.result.now in
    let before = c.loop-index.invariant in
    let tried : IsCutOrNoneOf units out sign numbers c.loop-index.reduced c.cut_by_one_of.new.reduced false =
    subst (IsCutOrNoneOf units out sign numbers c.loop-index.reduced c.cut_by_one_of.new.reduced) c.if-branch.false c.in_ok-cut_by_one_of.ensures.ok in (
      tried.0 ∙ before.0,
      one-more c.loop-index.index units out d here
          (subst (λ (r : Reduced). slice_get (clause_of r.clause).literals c.loop-index.index ≡ Some here) before.0 c.literal-literal.ensures) before.1
          (none-over units out d here numbers
          (subst (HasCandidates units here) (sym c.as_slice.ensures) c.in_ok-found.ensures)
          (λ n there. subst (λ (r : Reduced). SignedCutsNone units out sign (clause_of r.clause) n) before.0 (tried.1 n there))),
    )

pub returns-clause-ok : goal.returns-clause-ok
returns-clause-ok c = (
  c.loop-index.invariant.0,
  none-of-all c.loop-index.index c.args.self.now c.args.left_out (clause_of c.args.reduced.now.clause) (omega (arith, c.count-index-end.ensures))
      c.loop-index.invariant.1,
)
