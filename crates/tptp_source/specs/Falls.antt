-- Each member of a list is smaller than the list, which is why a recursion down a general term ends.
use Rattle.std.specs.Prelude.{◌≤◌, List, [], ◌∷◌, map}
use Rattle.std.proofs.Common.{arith}
use denote.Param.Weighed.{most}
use Rattle.tptp_source.specs.General.{tree_size, trees_size, trees_of}
use Rattle.tptp_source.specs.Shape.{tree_of}
use Rattle.tptp_source.specs.declared.term.GeneralTerm.{GeneralTerm}
use Rattle.tptp_source.specs.declared.term.GeneralTerm.TheVariants.{Variable, Word, Dollar, Number, Distinct, Negated, Listed, Joined}
use Rattle.tptp_source.specs.declared.term.GeneralTerms.TheDeep.{deep-GeneralTerm}

pub deep-GeneralTerm-≤ : (t : GeneralTerm) → deep-GeneralTerm t ≤ tree_size (tree_of t)
deep-GeneralTerm-≤ (Variable x) = omega arith
deep-GeneralTerm-≤ (Word f ts) = omega arith
deep-GeneralTerm-≤ (Dollar d ts) = omega arith
deep-GeneralTerm-≤ (Number sign n) = omega arith
deep-GeneralTerm-≤ (Distinct d) = omega arith
deep-GeneralTerm-≤ (Negated f) = omega arith
deep-GeneralTerm-≤ (Listed ts) = omega arith
deep-GeneralTerm-≤ (Joined ts) = omega arith

pub most-deep-GeneralTerm-≤ : (ts : List GeneralTerm) → most deep-GeneralTerm ts ≤ trees_size (trees_of (map tree_of ts))
most-deep-GeneralTerm-≤ [] = omega arith
most-deep-GeneralTerm-≤ (t ∷ ts) = omega (arith, deep-GeneralTerm-≤ t, most-deep-GeneralTerm-≤ ts)
