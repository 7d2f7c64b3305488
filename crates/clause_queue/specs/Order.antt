-- The order of weights: by size, and where sizes tie by number.
use Rattle.std.specs.Prelude.{◌≡◌, ℕ, ◌<◌, ◌≤◌}

-- p has the lesser size, or of one size the lower number
abbrev pub IsLighter : ℕ × ℕ → ℕ × ℕ → Type 0
IsLighter p q = (p.1 ≤ q.1) × (p.1 ≡ q.1 → p.0 < q.0)

-- p has the lesser size, or of one size no higher number
abbrev pub IsNoHeavier : ℕ × ℕ → ℕ × ℕ → Type 0
IsNoHeavier p q = (p.1 ≤ q.1) × (p.1 ≡ q.1 → p.0 ≤ q.0)
