-- Worked rows of the definitions: the clauses 0, 1 and 2 of the sizes 5, 3 and 3.
use Rattle.std.proofs.Common.{◌≡◌, ℕ, List, [], ◌∷◌, refl, arith}
use Rattle.clause_queue.specs.Pairs.{with_pair, without, numbers, IsRising}
use Rattle.clause_queue.specs.Pick.{IsPick}
use Rattle.clause_queue.specs.declared.choice.Choice.TheVariants.{Light, Old}
use Rattle.clause_queue.proofs.Numbers.{light_pick, old_pick, pick_unique}

abbrev three : List (ℕ × ℕ)
three = (0, 5) ∷ (1, 3) ∷ (2, 3) ∷ []

put_in_place : with_pair (1, 3) ((0, 5) ∷ (2, 3) ∷ []) ≡ three
put_in_place = refl

left_without : without 1 three ≡ (0, 5) ∷ (2, 3) ∷ []
left_without = refl

their_numbers : numbers three ≡ 0 ∷ 1 ∷ 2 ∷ []
their_numbers = refl

rising : IsRising three
rising = ((omega arith, (omega arith, tt)), ((omega arith, tt), (tt, tt)))

-- of the two lightest, the one of the lower number
pub lightest : IsPick Light three 1
lightest = light_pick (1, 3) ((0, 5) ∷ (2, 3) ∷ []) (((omega arith, λ tie. absurd (omega arith)), λ same. omega arith), (((omega arith, λ tie. omega arith), λ same. omega arith), tt))

pub oldest : IsPick Old three 0
oldest = old_pick (0, 5) ((1, 3) ∷ (2, 3) ∷ []) (omega arith, (omega arith, (omega arith, tt)))

pub higher_number : IsPick Light three 2 → ⊥
higher_number picked = let same = pick_unique Light three 1 2 lightest picked in omega (arith, same)

pub younger : IsPick Old three 1 → ⊥
younger picked = let same = pick_unique Old three 0 1 oldest picked in omega (arith, same)
