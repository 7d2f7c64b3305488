-- Marks that are set, and where.
use Rattle.std.specs.Prelude.{◌≡◌, ℕ, Bool, true, false, ◌==◌, List}
use Rattle.std.specs.List.{list_any}
use Rattle.subsume.specs.Placing.{is_free}

-- the number is in the list
abbrev pub is_in : ℕ → List ℕ → Bool
is_in n ks = list_any (λ k. k == n) ks

-- each place that was free and isn't any more is listed
abbrev pub AreMarked : List Bool → List Bool → List ℕ → Type 0
AreMarked before after room = (k : ℕ) → is_free before k ≡ true → is_free after k ≡ false → is_in k room ≡ true
