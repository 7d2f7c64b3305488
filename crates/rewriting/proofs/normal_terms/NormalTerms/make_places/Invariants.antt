use Rattle.fol_base.specs.Tree.{Tree}
use Rattle.rewriting.specs.NormalTerms.{IsRemembered}
use Rattle.rewriting.proofs.normal_terms.NormalTerms.make_places.Given as goal

abbrev pub invariant-loop-place : goal.invariant-loop-place
invariant-loop-place l = (t : Tree) → IsRemembered l.self t → IsRemembered l.fn.self t
