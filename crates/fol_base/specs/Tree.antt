-- First-order terms as trees: a variable, or a symbol applied to a list of trees; and `$true`.
use Rattle.std.specs.Prelude.{ℕ, ◌+◌, ◌<◌, Bool, true, false, ◌&&◌, ◌==◌, List, [], ◌∷◌, ◌++◌}

-- A tree is a variable, by its number, or a symbol, by its number, applied to a list of trees: f(X0, a) is
-- `application f (tree_then (variable 0) (tree_then (application a no_trees) no_trees))`.
mutual
  pub data Tree : Type 0 where
    variable : ℕ → Tree
    application : ℕ → Trees → Tree

  pub data Trees : Type 0 where
    no_trees : Trees
    tree_then : Tree → Trees → Trees

-- the trees of a list
abbrev pub trees_of : List Tree → Trees
trees_of [] = no_trees
trees_of (t ∷ ts) = tree_then t (trees_of ts)

-- the list of trees
abbrev pub list_of : Trees → List Tree
list_of no_trees = []
list_of (tree_then t ts) = t ∷ list_of ts

-- how many there are
abbrev pub trees_count : Trees → ℕ
trees_count no_trees = 0
trees_count (tree_then t ts) = 1 + trees_count ts

-- whether the whole tree is a variable
abbrev pub is_variable : Tree → Bool
is_variable (variable v) = true
is_variable (application f ts) = false

-- how many occurrences of symbols and variables there are: 3 in f(X0, a)
abbrev mutual
  pub tree_size : Tree → ℕ
  tree_size (variable v) = 1
  tree_size (application f ts) = 1 + trees_size ts

  pub trees_size : Trees → ℕ
  trees_size no_trees = 0
  trees_size (tree_then t ts) = tree_size t + trees_size ts

-- whether two trees, or two lists of trees, are equal
abbrev mutual
  pub tree_eq : Tree → Tree → Bool
  tree_eq (variable v) (variable w) = v == w
  tree_eq (variable v) (application g us) = false
  tree_eq (application f ts) (variable w) = false
  tree_eq (application f ts) (application g us) = (f == g) && trees_eq ts us

  pub trees_eq : Trees → Trees → Bool
  trees_eq no_trees no_trees = true
  trees_eq no_trees (tree_then u us) = false
  trees_eq (tree_then t ts) no_trees = false
  trees_eq (tree_then t ts) (tree_then u us) = tree_eq t u && trees_eq ts us

-- the variables, from left to right, with repetitions
abbrev mutual
  pub tree_variables : Tree → List ℕ
  tree_variables (variable v) = v ∷ []
  tree_variables (application f ts) = trees_variables ts

  pub trees_variables : Trees → List ℕ
  trees_variables no_trees = []
  trees_variables (tree_then t ts) = tree_variables t ++ trees_variables ts

-- each variable has a number below n
abbrev mutual
  pub VariablesBelow : ℕ → Tree → Type 0
  VariablesBelow n (variable v) = v < n
  VariablesBelow n (application f ts) = AllVariablesBelow n ts

  pub AllVariablesBelow : ℕ → Trees → Type 0
  AllVariablesBelow n no_trees = Unit {0}
  AllVariablesBelow n (tree_then t ts) = VariablesBelow n t × AllVariablesBelow n ts

-- ---- `$true`

-- the reserved symbol with which an atom is written as an equation
abbrev pub true_symbol : ℕ
true_symbol = 0

-- `$true`: the reserved symbol without arguments
abbrev pub true_tree : Tree
true_tree = application true_symbol no_trees

-- whether a tree is `$true`
abbrev pub is_truth : Tree → Bool
is_truth t = tree_eq t true_tree
