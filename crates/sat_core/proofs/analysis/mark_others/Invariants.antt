use Rattle.std.proofs.Common.{◌≡◌, take, length}
use Rattle.sat_core.specs.State.{AreMarks}
use Rattle.sat_core.proofs.AboutConflicts.AnalysisLemmas.{Adds}
use Rattle.sat_core.proofs.analysis.mark_others.Given as goal

abbrev pub invariant-loop-literal : goal.invariant-loop-literal
invariant-loop-literal l = record {
  marks : AreMarks l.marks.marked.items l.marks.literals.items;
  names : length l.marks.marked.items ≡ length l.initial.marks.marked.items;
  adds : Adds (take l.literal-index l.literals) l.implied l.initial.marks.literals.items l.marks.literals.items;
}
