use Rattle.std.proofs.Common.{◌≡◌, ℕ, ◌<◌, length}
use Rattle.sat_core.specs.Clause.{valuation_of}
use Rattle.sat_core.proofs.models.truths_over.Given as goal

abbrev pub invariant-loop-name : goal.invariant-loop-name
invariant-loop-name l = record {
  count : length l.truths.items ≡ l.name;
  values : (name : ℕ) → name < l.name → valuation_of l.truths.items name ≡ valuation_of l.known name;
}
