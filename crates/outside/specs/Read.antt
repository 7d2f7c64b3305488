-- Reading a front of what a reader has left.
use Rattle.std.specs.Prelude.{◌≡◌, ◌<◌, ℕ, ◌+◌, List, length, take, Option, IfSome}

-- all that was left, or one more than `limit` bytes of it; a claim only where the reader tells
abbrev pub ReadsFront : Option (List ℕ) → ℕ → List ℕ → Type 0
ReadsFront remaining limit bytes = IfSome remaining (λ left. bytes ≡ take (limit + 1) left)

-- it was read from some reader, in the state that the reader then had
abbrev pub IsReadFrom : {R : Type 0} → (R → Option (List ℕ)) → ℕ → List ℕ → Type 0
IsReadFrom {R} remaining limit bytes = (reader : R) × ReadsFront (remaining reader) limit bytes

-- more than `limit` bytes were read from some reader: so many
abbrev pub IsReadBeyond : {R : Type 0} → (R → Option (List ℕ)) → ℕ → ℕ → Type 0
IsReadBeyond remaining limit count = (bytes : List ℕ) × IsReadFrom remaining limit bytes × (count ≡ length bytes) × (limit < count)
