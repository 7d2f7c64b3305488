use Rattle.std.proofs.Common.{◌≡◌, ◌&&◌, nat_eq, map, drop}
use Rattle.std.specs.HashSet.{contains}
use Rattle.kernel_steps.specs.Split.{share_no_numbers}
use Rattle.kernel_steps.proofs.AboutSplits.SplitTables.{none_passes}
use Rattle.kernel_steps.proofs.split.share_no_numbers.Given as goal

abbrev pub invariant-loop-list : goal.invariant-loop-list
invariant-loop-list l =
    (none_passes (contains nat_eq l.met) (map (λ list. list.items) (drop l.list-index l.lists))
    && share_no_numbers (map (λ list. list.items) (drop l.list-index l.lists)))
    ≡ share_no_numbers (map (λ list. list.items) l.lists)
