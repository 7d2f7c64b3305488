-- Laws of waiting clauses.
use Rattle.std.specs.Prelude.{◌≡◌, ℕ, List, Contains}
use Rattle.clause_queue.specs.Pairs.{with_pair, without, IsRising}
use Rattle.clause_queue.specs.Pick.{IsPick}
use Rattle.clause_queue.specs.declared.choice.Choice.{Choice}

-- a pair that is taken out and put back restores the list
abbrev pub PutBackRestores : Type 0
PutBackRestores = (p : ℕ × ℕ) (ps : List (ℕ × ℕ)) → IsRising ps → Contains ps p → with_pair p (without p.0 ps) ≡ ps

-- a choice picks one number
abbrev pub PicksAreUnique : Type 0
PicksAreUnique = (choice : Choice) (ps : List (ℕ × ℕ)) (m n : ℕ) → IsPick choice ps m → IsPick choice ps n → m ≡ n
