-- The program's terms as trees.
use Rattle.fol_base.specs.Tree.{Tree, variable, application, trees_of}
use Rattle.fol_base.specs.declared.term.Term.{Term}
use Rattle.fol_base.specs.declared.term.Term.TheVariants.{Var, App}

-- the tree that a term of the program stands for
abbrev pub tree_of : Term → Tree
tree_of (Var v) = variable v
tree_of (App f ts) = application f (trees_of ts)
