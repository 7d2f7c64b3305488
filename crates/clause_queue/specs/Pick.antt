-- Which waiting clause is picked.
use Rattle.std.specs.Prelude.{ℕ, ◌≤◌, List, All, Contains}
use Rattle.clause_queue.specs.Order.{IsNoHeavier}
use Rattle.clause_queue.specs.Pairs.{numbers}
use Rattle.clause_queue.specs.declared.choice.Choice.{Choice}
use Rattle.clause_queue.specs.declared.choice.Choice.TheVariants.{Light, Old}

-- n is a number among the pairs: of the least size, ties to the lower number, or the least number
abbrev pub IsPick : Choice → List (ℕ × ℕ) → ℕ → Type 0
IsPick Light ps n = (size : ℕ) × Contains ps (n, size) × All (λ q. IsNoHeavier (n, size) q) ps
IsPick Old ps n = Contains (numbers ps) n × All (λ q. n ≤ q.0) ps
