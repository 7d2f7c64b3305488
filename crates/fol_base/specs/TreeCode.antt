-- A code for trees: the steps of a small machine that builds one, read from the last step to the first.
use Rattle.std.specs.Prelude.{◌≡◌, ℕ, zero, suc, List, [], ◌∷◌, refl}
use Rattle.std.specs.Coded.{Coded, code_by, coded×, coded_ℕ, coded_list}
use Rattle.std.proofs.Common.{◌∙◌, ap}
use Rattle.fol_base.specs.Tree.{Tree, variable, application, Trees, no_trees, tree_then}

-- (0, v) puts a variable in front, (2, _) begins a list of arguments, (1, f) ends it with its symbol
abbrev pub Step : Type 0
Step = ℕ × ℕ

-- the list in work, and the lists around it
abbrev pub State : Type 0
State = Trees × List Trees

abbrev mutual
  pub tree_steps : Tree → List Step → List Step
  tree_steps (variable v) rest = (0, v) ∷ rest
  tree_steps (application f ts) rest = (1, f) ∷ trees_steps ts ((2, 0) ∷ rest)

  pub trees_steps : Trees → List Step → List Step
  trees_steps no_trees rest = rest
  trees_steps (tree_then t ts) rest = tree_steps t (trees_steps ts rest)

abbrev pub close : ℕ → Trees → List Trees → State
close f top [] = (top, [])
close f top (next ∷ below) = (tree_then (application f top) next, below)

abbrev pub after_step : ℕ → ℕ → State → State
after_step zero v s = (tree_then (variable v) s.0, s.1)
after_step (suc zero) f s = close f s.0 s.1
after_step (suc (suc n)) f s = (no_trees, s.0 ∷ s.1)

abbrev pub after_steps : List Step → State
after_steps [] = (no_trees, [])
after_steps (s ∷ rest) = after_step s.0 s.1 (after_steps rest)

abbrev pub first_tree : Trees → Tree
first_tree no_trees = variable 0
first_tree (tree_then t ts) = t

abbrev pub joined : Trees → Trees → Trees
joined no_trees us = us
joined (tree_then t ts) us = tree_then t (joined ts us)

pub joined-no_trees : (ts : Trees) → joined ts no_trees ≡ ts
joined-no_trees no_trees = refl
joined-no_trees (tree_then t ts) = ap (tree_then t) (joined-no_trees ts)

mutual
  pub after_steps-tree_steps :
      (t : Tree) (rest : List Step)
      → after_steps (tree_steps t rest) ≡ (tree_then t (after_steps rest).0, (after_steps rest).1)
  after_steps-tree_steps (variable v) rest = refl
  after_steps-tree_steps (application f ts) rest =
      ap (λ (s : State). close f s.0 s.1) (after_steps-trees_steps ts ((2, 0) ∷ rest))
      ∙ ap (λ (us : Trees). close f us ((after_steps rest).0 ∷ (after_steps rest).1)) (joined-no_trees ts)

  pub after_steps-trees_steps :
      (ts : Trees) (rest : List Step)
      → after_steps (trees_steps ts rest) ≡ (joined ts (after_steps rest).0, (after_steps rest).1)
  after_steps-trees_steps no_trees rest = refl
  after_steps-trees_steps (tree_then t ts) rest =
      after_steps-tree_steps t (trees_steps ts rest)
      ∙ ap (λ (s : State). let r : State = (tree_then t s.0, s.1) in r) (after_steps-trees_steps ts rest)

abbrev pub tree_code : Coded Tree
tree_code =
    code_by (List Step) (coded_list (coded× coded_ℕ coded_ℕ)) (λ t. tree_steps t []) (λ steps. first_tree (after_steps steps).0)
    (λ t. ap (λ (s : State). first_tree s.0) (after_steps-tree_steps t []))
