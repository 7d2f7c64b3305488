use Rattle.std.proofs.Common.{◌≡◌, ◌++◌, map, drop}
use Rattle.kernel_steps.specs.Split.{opposites}
use Rattle.kernel_steps.proofs.split.push_opposites.Given as goal

abbrev pub invariant-loop-number : goal.invariant-loop-number
invariant-loop-number g l =
    l.names.items ++ opposites (map (g.P.LendsParents.meaning l.parents) (drop l.number-index l.definitions))
    ≡ l.initial.names.items ++ opposites (map (g.P.LendsParents.meaning l.parents) l.definitions)
