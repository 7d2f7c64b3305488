use Rattle.std.proofs.Common.{◌-◌}
use Rattle.tptp_problem.specs.Awaiting.{StillReads}
use Rattle.tptp_problem.specs.Shape.{lexemes_told}
use Rattle.tptp_problem.proofs.include.names_between.Given as goal

abbrev pub invariant-loop-at : goal.invariant-loop-at
invariant-loop-at l = StillReads (lexemes_told l.source) l.end l.first l.at l.names

abbrev pub decreases-loop-at : goal.decreases-loop-at
decreases-loop-at l = l.end - l.at
