-- Waiting clauses as pairs, each a clause's number and its size, in the order of the numbers.
use Rattle.std.specs.Prelude.{◌≢◌, ℕ, ◌<◌, not, nat_lt, ◌==◌, if◌then◌else◌, List, [], ◌∷◌, map, filter}
use Rattle.std.specs.List.{AllByRecursion}

-- what contracts see of a queue: its pairs, and how many more it takes without new memory
pub record Waiting : Type 0 where
  pub pairs : List (ℕ × ℕ)
  pub spare : ℕ

-- the numbers of the pairs
abbrev pub numbers : List (ℕ × ℕ) → List ℕ
numbers ps = map (λ p. p.0) ps

-- the pairs with p among them, in its place by the numbers
abbrev pub with_pair : ℕ × ℕ → List (ℕ × ℕ) → List (ℕ × ℕ)
with_pair p [] = p ∷ []
with_pair p (q ∷ qs) = if nat_lt p.0 q.0 then p ∷ q ∷ qs else q ∷ with_pair p qs

-- the pairs of other numbers than n, in their order
abbrev pub without : ℕ → List (ℕ × ℕ) → List (ℕ × ℕ)
without n ps = filter (λ p. not (p.0 == n)) ps

-- no pair has the number n
abbrev pub IsAbsent : ℕ → List (ℕ × ℕ) → Type 0
IsAbsent n ps = AllByRecursion (λ p. p.0 ≢ n) ps

-- each number is below those of the pairs after it
abbrev pub IsRising : List (ℕ × ℕ) → Type 0
IsRising [] = Unit {0}
IsRising (p ∷ ps) = AllByRecursion (λ q. p.0 < q.0) ps × IsRising ps
