use Rattle.std.proofs.Common.{◌≡◌, ◌<◌, ℕ, true, false}
use Rattle.sat_core.specs.Clause.{valuation_of, clauses_true}
use Rattle.congruence.specs.Congruence.{class_in}
use Rattle.congruence.specs.Models.{values_by, AreExtended}
use Rattle.congruence.proofs.conflict.add_conflicts.Given as goal

abbrev pub invariant-loop-name : goal.invariant-loop-name
invariant-loop-name l = record {
  extended : AreExtended l.nodes l.atoms l.initial.clauses l.clauses;
  broken : l.found ≡ true → clauses_true (valuation_of l.truths) l.clauses ≡ false;
  none : l.found ≡ false → (m : ℕ) → m < l.name → valuation_of l.truths m ≡ false → values_by (class_in l.joined.classes.items) l.atoms m ≡ false;
}
