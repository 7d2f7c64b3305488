use Rattle.std.proofs.Common.{take}
use Rattle.std.specs.Prelude.{IsTrue}
use Rattle.herbrand_list.specs.Refuted.{ground_clauses, are_ground_clauses}
use Rattle.herbrand_list.proofs.open_clauses.open_clause.Given as goal

abbrev pub invariant-loop-index : goal.invariant-loop-index
invariant-loop-index l = IsTrue (are_ground_clauses (take l.index (ground_clauses l.clauses)))
