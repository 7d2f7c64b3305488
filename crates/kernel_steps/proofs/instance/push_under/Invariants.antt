use Rattle.std.proofs.Common.{◌≡◌, ◌++◌, map, take}
use Rattle.fol_base.specs.Term.{tree_of}
use Rattle.kernel_steps.specs.Bound.{under}
use Rattle.kernel_steps.proofs.instance.push_under.Given as goal

abbrev pub invariant-loop-item : goal.invariant-loop-item
invariant-loop-item g l =
    map tree_of l.made.items
    ≡ map tree_of l.initial.made.items ++ map (λ item. under l.is_bound (g.T.LendsTerms.meaning l.bind) (tree_of item)) (take l.item-index l.items)
