use Rattle.std.proofs.Common.{◌≤◌, length}
use Rattle.sat_core.specs.Known.{log_of}
use Rattle.sat_core.proofs.AboutAnswers.TrimLemmas.{AreNeededFrom}
use Rattle.sat_core.proofs.AboutAnswers.UseLemmas.{AreUsed}
use Rattle.sat_core.proofs.trimming.needed_chains.Given as goal

abbrev pub invariant-loop-index : goal.invariant-loop-index
invariant-loop-index l = record {
  bound : l.index ≤ length l.clauses.starts.items;
  needed : AreNeededFrom (length l.clauses.inputs.now) (log_of l.clauses) l.needed.items l.index;
  used : AreUsed (length l.clauses.inputs.now) (log_of l.clauses) l.needed.items;
}

abbrev pub decreases-loop-index : goal.decreases-loop-index
decreases-loop-index l = l.index
