use Rattle.std.proofs.Common.{◌≡◌, false, take}
use Rattle.std.specs.List.{list_any}
use Rattle.sat_core.specs.Clause.{literal_true, valuation_of}
use Rattle.sat_core.proofs.models.is_clause_true.Given as goal

abbrev pub invariant-loop-literal : goal.invariant-loop-literal
invariant-loop-literal l = list_any (literal_true (valuation_of l.truths)) (take l.literal-index l.clause) ≡ false
