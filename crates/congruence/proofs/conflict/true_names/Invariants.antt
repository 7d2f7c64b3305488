use Rattle.std.proofs.Common.{◌<◌, ◌==◌, ℕ, nat_lt}
use Rattle.std.specs.Prelude.{IsTrue}
use Rattle.std.specs.List.{list_any, list_all}
use Rattle.sat_core.specs.Clause.{valuation_of}
use Rattle.congruence.proofs.conflict.true_names.Given as goal

abbrev pub invariant-loop-name : goal.invariant-loop-name
invariant-loop-name l = record {
  below : IsTrue (list_all (λ n. nat_lt n l.count) l.names.items);
  true_ones : IsTrue (list_all (valuation_of l.truths) l.names.items);
  each : (m : ℕ) → m < l.name → IsTrue (valuation_of l.truths m) → IsTrue (list_any (λ n. n == m) l.names.items);
}
