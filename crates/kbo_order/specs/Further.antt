-- Where the walk for the next block of variables begins.
use Rattle.std.specs.Prelude.{◌≡◌, ℕ, ◌+◌, ◌^◌, ◌<◌, ◌≤◌}
use Rattle.fol_base.specs.Tree.{Tree}
use Rattle.fol_base.specs.Order.{occurrences}

-- the variables have numbers of 32 bits
abbrev pub IsNumbered : Tree → Type 0
IsNumbered t = (v : ℕ) → 2 ^ 32 ≤ v → occurrences v t ≡ 0

-- no variable past the block that begins at start and before next stands in the term
abbrev pub IsClear : ℕ → ℕ → Tree → Type 0
IsClear start next t = (v : ℕ) → start + 32 ≤ v → v < next → occurrences v t ≡ 0
