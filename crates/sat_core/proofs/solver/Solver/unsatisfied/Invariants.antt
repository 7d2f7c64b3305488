use Rattle.std.proofs.Common.{take}
use Rattle.std.specs.Prelude.{IsTrue}
use Rattle.sat_core.specs.Clause.{clauses_true, valuation_of}
use Rattle.sat_core.specs.Search.{values_of}
use Rattle.sat_core.specs.Known.{known}
use Rattle.sat_core.proofs.solver.Solver.unsatisfied.Given as goal

abbrev pub invariant-loop-number : goal.invariant-loop-number
invariant-loop-number l = IsTrue (clauses_true (valuation_of (values_of l.self.trail.slots.items)) (take l.number (known l.self.clauses)))
