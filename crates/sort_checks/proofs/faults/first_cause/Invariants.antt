use Rattle.std.proofs.Common.{◌≡◌, length, drop, []}
use Rattle.typed_problem.specs.SortFaults.{first_fault}
use Rattle.sort_checks.proofs.faults.first_cause.Given as goal

abbrev pub invariant-loop-cause : goal.invariant-loop-cause
invariant-loop-cause l = first_fault [] (drop (length l.yielded) l.causes) (drop (length l.yielded) l.places) ≡ first_fault [] l.causes l.places
