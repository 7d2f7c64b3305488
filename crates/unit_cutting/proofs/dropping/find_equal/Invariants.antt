use Rattle.fol_base.specs.Literal.{clause_of}
use Rattle.unit_cutting.proofs.AboutLeaving.DroppingLemmas.{NoneBefore}
use Rattle.unit_cutting.proofs.dropping.find_equal.Given as goal

abbrev pub invariant-loop-goes : goal.invariant-loop-goes
invariant-loop-goes l = NoneBefore (clause_of l.fn.clause) l.goes
