use Rattle.std.proofs.Common.{◌≡◌, ◌+◌, map, drop}
use Rattle.std.specs.Prelude.{option_and_then}
use Rattle.kernel_steps.specs.Names.{chained_from, chained}
use Rattle.kernel_steps.specs.Parents.{all_there}
use Rattle.kernel_steps.specs.Conclusion.{names_at}
use Rattle.kernel_steps.proofs.chain.chain.Given as goal

abbrev pub invariant-loop-index : goal.invariant-loop-index
invariant-loop-index g l =
    option_and_then (chained_from l.names (drop l.index l.pivots))
    (all_there (map (names_at (g.P.LendsParents.meaning l.parents)) (drop (l.index + 1) l.numbers)))
    ≡ option_and_then (λ nss. chained nss l.pivots) (all_there (map (names_at (g.P.LendsParents.meaning l.parents)) l.numbers))
