use Rattle.std.proofs.Common.{◌≡◌, ◌-◌, ◌^◌, ◌⊎◌}
use Rattle.fol_base.specs.Instance.{instance}
use Rattle.fol_base.specs.Term.{tree_of}
use Rattle.kbo_order.proofs.AboutReading.OneWayLemmas.{IsGreaterBelow}
use Rattle.kbo_order.proofs.greater.greater_in_blocks.Given as goal

abbrev pub invariant-loop-start : goal.invariant-loop-start
invariant-loop-start g l =
    (l.start ≡ 0)
    ⊎ IsGreaterBelow l.start (instance (g.S.LendsTerms.meaning l.left_bind) (tree_of l.left)) (instance (g.T.LendsTerms.meaning l.right_bind) (tree_of l.right))

abbrev pub decreases-loop-start : goal.decreases-loop-start
decreases-loop-start g l = 2 ^ 32 - l.start
