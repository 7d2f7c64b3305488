use Rattle.std.proofs.Common.{◌≡◌, ℕ, ◌≤◌}
use Rattle.split_parts.specs.Forest.{Falls, IsColouring}
use Rattle.split_parts.proofs.forest.root_of.Given as goal

abbrev pub decreases-loop-current : goal.decreases-loop-current
decreases-loop-current l = l.current

abbrev pub invariant-loop-current : goal.invariant-loop-current
invariant-loop-current l =
    record {
      falls : Falls l.links;
      below : l.current ≤ l.place;
      colour : (colour : ℕ → ℕ) → IsColouring colour l.fn.links → colour l.current ≡ colour l.place;
      colouring : (colour : ℕ → ℕ) → IsColouring colour l.fn.links → IsColouring colour l.links;
    }
