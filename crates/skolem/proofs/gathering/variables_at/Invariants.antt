use Rattle.std.proofs.Common.{◌≡◌, ◌==◌, ℕ, drop}
use Rattle.std.specs.List.{list_any}
use Rattle.skolem.specs.Bindings.{Covers}
use Rattle.skolem.specs.Progress.{variables_at}
use Rattle.skolem.proofs.gathering.variables_at.Given as goal

abbrev pub invariant-loop-index : goal.invariant-loop-index
invariant-loop-index l =
    ((v : ℕ) → list_any (λ w. v == w) l.found.variables.items ≡ list_any (λ w. v == w) (variables_at l.bindings (drop l.index l.different.items)))
    × (Covers l.bindings l.found.covers l.found.variables.items × Covers l.bindings l.found.covered l.found.variables.items)
