use Rattle.fol_base.specs.Literal.{clause_of}
use Rattle.unit_cutting.proofs.SubsumerLemmas.{NoneCovers}
use Rattle.unit_cutting.proofs.index.UnitIndex.subsumer.Given as goal

abbrev pub invariant-loop-index : goal.invariant-loop-index
invariant-loop-index l = NoneCovers l.index l.self l.left_out (clause_of l.clause)
