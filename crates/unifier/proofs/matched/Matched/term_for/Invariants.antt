use Rattle.std.proofs.Common.{◌≡◌, map, drop}
use Rattle.unifier.specs.Matching.{term_for}
use Rattle.unifier.specs.Walk.{pair_of}
use Rattle.unifier.proofs.matched.Matched.term_for.Given as goal

abbrev pub invariant-loop-pair : goal.invariant-loop-pair
invariant-loop-pair l =
    term_for l.variable (map pair_of (drop l.pair-index l.pair-items)) ≡ term_for l.variable (map pair_of l.pair-items)
