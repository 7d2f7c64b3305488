use Rattle.std.proofs.Common.{◌≡◌}
use Rattle.fol_base.specs.Literal.{clause_of}
use Rattle.unit_cutting.proofs.CutLemmas.{NoneBefore}
use Rattle.unit_cutting.proofs.index.UnitIndex.cut_once.Given as goal

abbrev pub invariant-loop-index : goal.invariant-loop-index
invariant-loop-index l = (l.reduced ≡ l.fn.reduced) × NoneBefore l.index l.self l.left_out (clause_of l.fn.reduced.clause)
