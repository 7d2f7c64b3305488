use Rattle.std.proofs.Common.{◌≡◌, drop}
use Rattle.fol_base.specs.Place.{subterm}
use Rattle.fol_base.specs.Term.{tree_of}
use Rattle.fol_base.specs.Instance.{instance}
use Rattle.kernel_steps.specs.Bound.{under}
use Rattle.kernel_steps.proofs.instance.stands_at.Given as goal

abbrev pub invariant-loop-number : goal.invariant-loop-number
invariant-loop-number g l =
    subterm (drop l.number-index l.place) (under l.is_bound (g.T.LendsTerms.meaning l.host_bind) (tree_of l.found))
    ≡ subterm l.place (instance (g.T.LendsTerms.meaning l.host_bind) (tree_of l.host))
