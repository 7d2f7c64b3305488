use Rattle.std.proofs.Common.{◌≡◌, take, nat_lt, true}
use Rattle.std.specs.List.{list_all}
use Rattle.sat_core.specs.Clause.{valuation_of}
use Rattle.congruence.proofs.conflict.are_true_names.Given as goal

abbrev pub invariant-loop-name : goal.invariant-loop-name
invariant-loop-name l = record {
  below : list_all (λ n. nat_lt n l.bound) (take l.name-index l.names) ≡ true;
  true_ones : list_all (valuation_of l.truths) (take l.name-index l.names) ≡ true;
}
