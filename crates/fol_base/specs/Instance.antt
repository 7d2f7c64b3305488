-- Substitutions, and the instance of a tree under one.
use Rattle.std.specs.Prelude.{ℕ, List, slice_index_or}
use Rattle.fol_base.specs.Tree.{Tree, variable, application, Trees, no_trees, tree_then}

-- the tree that stands for each variable, by the variable's number
abbrev pub Substitution : Type 0
Substitution = ℕ → Tree

-- the tree, or each tree of the list, with every variable replaced by its tree under σ
abbrev mutual
  pub instance : Substitution → Tree → Tree
  instance σ (variable v) = σ v
  instance σ (application f ts) = application f (instances σ ts)

  pub instances : Substitution → Trees → Trees
  instances σ no_trees = no_trees
  instances σ (tree_then t ts) = tree_then (instance σ t) (instances σ ts)

-- the substitution of a list: a variable past its end stands for itself
abbrev pub substitution : List Tree → Substitution
substitution ts v = slice_index_or ts v (variable v)
