use Rattle.std.proofs.Common.{◌≡◌, drop}
use Rattle.sat_core.specs.Clause.{clauses_true, valuation_of}
use Rattle.sat_core.proofs.models.are_true.Given as goal

abbrev pub invariant-loop-number : goal.invariant-loop-number
invariant-loop-number l = clauses_true (valuation_of l.truths) (drop l.number l.clauses) ≡ clauses_true (valuation_of l.truths) (drop l.from l.clauses)
