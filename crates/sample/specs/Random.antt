-- Numbers that look random: a linear congruence modulo 2^64, of which the upper bits are shown.
use Rattle.std.specs.Prelude.{ℕ, ◌+◌, ◌*◌, ◌/◌, ◌%◌, ◌^◌}

-- the next seed, with the multiplier and the increment of Knuth's MMIX
abbrev pub following : ℕ → ℕ
following seed = (seed * 6364136223846793005 + 1442695040888963407) % 2 ^ 64

-- what is shown of a seed: its upper 31 bits
abbrev pub shown : ℕ → ℕ
shown seed = seed / 2 ^ 33
