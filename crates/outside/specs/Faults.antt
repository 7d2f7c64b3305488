-- Counts of faults.
use Rattle.std.specs.Prelude.{◌<◌, ◌≤◌, ◌⊎◌, ◌^◌, ◌-◌, ℕ}

-- the count has risen, or stands at the last value of a `u64`, beyond which no count in one goes
abbrev pub Rose : ℕ → ℕ → Type 0
Rose before now = (before < now) ⊎ (2 ^ 64 - 1 ≤ now)
