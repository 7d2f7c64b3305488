use Rattle.std.proofs.Common.{◌≡◌, ◌-◌, drop, length}
use Rattle.tptp_problem.specs.Awaiting.{ending_from}
use Rattle.tptp_problem.specs.Shape.{lexemes_told}
use Rattle.tptp_problem.specs.declared.include.Awaited.TheVariants.{Keyword}
use Rattle.tptp_problem.proofs.include.ending_of.Given as goal

abbrev pub invariant-loop-token : goal.invariant-loop-token
invariant-loop-token l =
    ending_from l.at l.awaited (drop l.at (lexemes_told l.source)) ≡ ending_from l.first Keyword (drop l.first (lexemes_told l.source))

abbrev pub decreases-loop-token : goal.decreases-loop-token
decreases-loop-token l = length l.source.lexed.now.tokens - l.at
