-- General terms of TPTP annotations (Sutcliffe 2017, in the profile of this program), as trees.
use Rattle.std.specs.Prelude.{ℕ, ◌+◌, List, [], ◌∷◌}
use Rattle.tptp_source.specs.declared.sign.NumberSign.{NumberSign}

-- A general term, and a list of general terms: for example `file('a.p',ax)`, `[X,~q]`, `bind(X,f(Y)):-1`.
mutual
  pub data GeneralTree : Type 0 where
    variable : List ℕ → GeneralTree
    -- a word by its name, and its arguments
    word : List ℕ → GeneralTrees → GeneralTree
    -- a dollar word with its dollar signs, and its arguments
    dollar : List ℕ → GeneralTrees → GeneralTree
    number : NumberSign → List ℕ → GeneralTree
    -- a distinct object with its quotes
    distinct : List ℕ → GeneralTree
    -- `~` before a word, by the word's name
    negated : List ℕ → GeneralTree
    -- terms in square brackets
    listed : GeneralTrees → GeneralTree
    -- terms between `:`
    joined : GeneralTrees → GeneralTree

  pub data GeneralTrees : Type 0 where
    no_trees : GeneralTrees
    tree_then : GeneralTree → GeneralTrees → GeneralTrees

-- the trees of a list
abbrev pub trees_of : List GeneralTree → GeneralTrees
trees_of [] = no_trees
trees_of (t ∷ ts) = tree_then t (trees_of ts)

-- the list of trees
abbrev pub list_of_trees : GeneralTrees → List GeneralTree
list_of_trees no_trees = []
list_of_trees (tree_then t ts) = t ∷ list_of_trees ts

-- One part of a joined term is itself.
abbrev pub whole : List GeneralTree → GeneralTree
whole [] = joined no_trees
whole (t ∷ []) = t
whole (t ∷ u ∷ us) = joined (trees_of (t ∷ u ∷ us))

-- the words, numbers, variables, lists and joints
abbrev mutual
  pub tree_size : GeneralTree → ℕ
  tree_size (variable x) = 1
  tree_size (word f ts) = 1 + trees_size ts
  tree_size (dollar d ts) = 1 + trees_size ts
  tree_size (number sign n) = 1
  tree_size (distinct d) = 1
  tree_size (negated f) = 1
  tree_size (listed ts) = 1 + trees_size ts
  tree_size (joined ts) = 1 + trees_size ts

  pub trees_size : GeneralTrees → ℕ
  trees_size no_trees = 0
  trees_size (tree_then t ts) = tree_size t + trees_size ts
