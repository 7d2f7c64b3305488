-- The program's general terms as trees.
use Rattle.tptp_source.specs.General.{GeneralTree, variable, word, dollar, number, distinct, negated, listed, joined, trees_of}
use Rattle.tptp_source.specs.declared.term.GeneralTerm.{GeneralTerm}
use Rattle.tptp_source.specs.declared.term.GeneralTerm.TheVariants.{Variable, Word, Dollar, Number, Distinct, Negated, Listed, Joined}

abbrev pub tree_of : GeneralTerm → GeneralTree
tree_of (Variable x) = variable x
tree_of (Word f ts) = word f (trees_of ts)
tree_of (Dollar d ts) = dollar d (trees_of ts)
tree_of (Number sign n) = number sign n
tree_of (Distinct d) = distinct d
tree_of (Negated f) = negated f
tree_of (Listed ts) = listed (trees_of ts)
tree_of (Joined ts) = joined (trees_of ts)
