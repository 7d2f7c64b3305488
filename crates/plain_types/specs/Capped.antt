-- Counts as a machine word holds them.
use Rattle.std.specs.Prelude.{ℕ, ◌-◌, ◌^◌, min}

-- a count that stops at u64's last value
abbrev pub capped : ℕ → ℕ
capped n = min n (2 ^ 64 - 1)
