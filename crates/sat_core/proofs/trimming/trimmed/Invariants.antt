use Rattle.std.proofs.Common.{length}
use Rattle.sat_core.specs.Answer.{IsRightLog}
use Rattle.sat_core.specs.Known.{log_of}
use Rattle.sat_core.proofs.AboutAnswers.TrimLemmas.{IsTrimmed}
use Rattle.sat_core.proofs.AboutAnswers.UseLemmas.{IsLean}
use Rattle.sat_core.proofs.trimming.trimmed.Given as goal

abbrev pub invariant-loop-index : goal.invariant-loop-index
invariant-loop-index l = record {
  found :
      (right : IsRightLog l.clauses.inputs.now (log_of l.clauses))
      → IsTrimmed l.clauses.inputs.now right.made l.needed.items l.index l.numbers.items l.log.items;
  lean : IsLean (length l.clauses.inputs.now) (log_of l.clauses) l.needed.items l.index l.numbers.items l.log.items;
}
