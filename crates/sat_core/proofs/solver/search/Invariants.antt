use Rattle.sat_core.specs.Solver.{IsBegun, left_to_try}
use Rattle.sat_core.proofs.solver.search.Given as goal

abbrev pub invariant-loop-solver : goal.invariant-loop-solver
invariant-loop-solver l = IsBegun l.names l.clauses l.solver

abbrev pub decreases-loop-solver : goal.decreases-loop-solver
decreases-loop-solver l = left_to_try l.names l.solver
