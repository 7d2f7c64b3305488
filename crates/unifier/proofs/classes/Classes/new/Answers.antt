use Rattle.std.proofs.Common.{◌≡◌, subst, arith}
use Rattle.unifier.proofs.AboutClasses.ClassLemmas.{IsIdentity, identity-push, discrete-classes}
use Rattle.unifier.proofs.classes.Classes.new.Goals as goal

pub loop-cell-preserved : goal.loop-cell-preserved
loop-cell-preserved c = (
  identity-push c.loop-cell.parents.items _ c.loop-cell.cell c.loop-cell.invariant.0 c.in_ok-push.ensures.items,
  identity-push c.loop-cell.schemas.items _ c.loop-cell.cell c.loop-cell.invariant.1 c.in_ok-push-2.ensures.items,
)

pub returns-clause-classes : goal.returns-clause-classes
returns-clause-classes c =
    let all : c.loop-cell.cell ≡ c.args.count = omega arith in
    discrete-classes c.args.count _
    (subst (IsIdentity c.loop-cell.parents.items) all c.loop-cell.invariant.0)
    (subst (IsIdentity c.loop-cell.schemas.items) all c.loop-cell.invariant.1)

pub returns-clause-discrete : goal.returns-clause-discrete
returns-clause-discrete c i h = (c.loop-cell.invariant.0.1 i (omega arith), c.loop-cell.invariant.1.1 i (omega arith))
