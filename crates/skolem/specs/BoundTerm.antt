-- The term to which a variable is bound.
use Rattle.fol_base.specs.Tree.{Tree, variable, true_tree}
use Rattle.signature.specs.Clausal.{applied}
use Rattle.skolem.specs.declared.bound_term.BoundTerm.{BoundTerm}
use Rattle.skolem.specs.declared.bound_term.BoundTerm.TheVariants.{Var, Skolem, Closed}

abbrev pub bound_tree : BoundTerm → Tree
bound_tree (Var v) = variable v
bound_tree (Skolem symbol arguments) = applied symbol arguments.value.items
bound_tree Closed = true_tree
