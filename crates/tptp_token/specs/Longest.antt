-- The longest beginning of a text that passes a test.
use Rattle.std.specs.Prelude.{ℕ, zero, suc, ◌+◌, Bool, List, take, length, if◌then◌else◌}

-- the greatest number up to a limit that passes, and 0 where none above 0 does
abbrev pub greatest : (ℕ → Bool) → ℕ → ℕ
greatest test zero = zero
greatest test (suc n) = if test (suc n) then suc n else greatest test n

-- the length of the longest beginning that passes, and 0 where none but the empty one does
unfoldable pub longest : (List ℕ → Bool) → List ℕ → ℕ
longest test bytes = greatest (λ n. test (take n bytes)) (length bytes)

-- the length of `front` bytes and the bytes after them together, and 0 where none are after them
abbrev pub behind : ℕ → ℕ → ℕ
behind front zero = zero
behind front (suc n) = front + suc n
