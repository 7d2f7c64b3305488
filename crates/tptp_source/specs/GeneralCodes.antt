-- A code for general terms: the steps of a small machine that builds a term, read from the last step to the first.
use Rattle.std.specs.Prelude.{◌≡◌, ℕ, zero, suc, List, [], ◌∷◌, refl}
use Rattle.std.specs.Coded.{Coded, code_by, coded×, coded_ℕ, coded_list}
use Rattle.std.proofs.Common.{◌∙◌, ap}
use Rattle.tptp_source.specs.declared.sign.NumberSign.{NumberSign}
use Rattle.tptp_source.specs.declared.sign.NumberSign.TheVariants.{Unsigned, Plus, Minus}
use Rattle.tptp_source.specs.General.{GeneralTree, variable, word, dollar, number, distinct, negated, listed, joined, GeneralTrees, no_trees, tree_then}

-- a step of that machine: 4 begins a list of terms; 5 to 8 end it as the arguments or members of a new term; each other
-- number puts a term without terms in front
abbrev pub TermStep : Type 0
TermStep = ℕ × List ℕ

-- the list in work, and the lists around it
abbrev pub TermState : Type 0
TermState = GeneralTrees × List GeneralTrees

abbrev pub sign_step : NumberSign → ℕ
sign_step Unsigned = 9
sign_step Plus = 10
sign_step Minus = 1

abbrev mutual
  pub tree_steps : GeneralTree → List TermStep → List TermStep
  tree_steps (variable x) rest = (0, x) ∷ rest
  tree_steps (word f ts) rest = (5, f) ∷ trees_steps ts ((4, []) ∷ rest)
  tree_steps (dollar d ts) rest = (6, d) ∷ trees_steps ts ((4, []) ∷ rest)
  tree_steps (number sign n) rest = (sign_step sign, n) ∷ rest
  tree_steps (distinct d) rest = (2, d) ∷ rest
  tree_steps (negated f) rest = (3, f) ∷ rest
  tree_steps (listed ts) rest = (7, []) ∷ trees_steps ts ((4, []) ∷ rest)
  tree_steps (joined ts) rest = (8, []) ∷ trees_steps ts ((4, []) ∷ rest)

  pub trees_steps : GeneralTrees → List TermStep → List TermStep
  trees_steps no_trees rest = rest
  trees_steps (tree_then t ts) rest = tree_steps t (trees_steps ts rest)

abbrev pub in_front : GeneralTree → TermState → TermState
in_front t s = (tree_then t s.0, s.1)

abbrev pub close : (GeneralTrees → GeneralTree) → GeneralTrees → List GeneralTrees → TermState
close f top [] = (top, [])
close f top (next ∷ below) = (tree_then (f top) next, below)

abbrev pub after_step : ℕ → List ℕ → TermState → TermState
after_step zero x s = in_front (variable x) s
after_step (suc zero) x s = in_front (number Minus x) s
after_step (suc (suc zero)) x s = in_front (distinct x) s
after_step (suc (suc (suc zero))) x s = in_front (negated x) s
after_step (suc (suc (suc (suc zero)))) x s = (no_trees, s.0 ∷ s.1)
after_step (suc (suc (suc (suc (suc zero))))) x s = close (word x) s.0 s.1
after_step (suc (suc (suc (suc (suc (suc zero)))))) x s = close (dollar x) s.0 s.1
after_step (suc (suc (suc (suc (suc (suc (suc zero))))))) x s = close listed s.0 s.1
after_step (suc (suc (suc (suc (suc (suc (suc (suc zero)))))))) x s = close joined s.0 s.1
after_step (suc (suc (suc (suc (suc (suc (suc (suc (suc zero))))))))) x s = in_front (number Unsigned x) s
after_step (suc (suc (suc (suc (suc (suc (suc (suc (suc (suc n)))))))))) x s = in_front (number Plus x) s

abbrev pub after_steps : List TermStep → TermState
after_steps [] = (no_trees, [])
after_steps (s ∷ rest) = after_step s.0 s.1 (after_steps rest)

abbrev pub first_tree : GeneralTrees → GeneralTree
first_tree no_trees = variable []
first_tree (tree_then t ts) = t

abbrev pub joined_trees : GeneralTrees → GeneralTrees → GeneralTrees
joined_trees no_trees us = us
joined_trees (tree_then t ts) us = tree_then t (joined_trees ts us)

pub joined-no_trees : (ts : GeneralTrees) → joined_trees ts no_trees ≡ ts
joined-no_trees no_trees = refl
joined-no_trees (tree_then t ts) = ap (tree_then t) (joined-no_trees ts)

pub sign-step :
    (sign : NumberSign) (n : List ℕ) (s : TermState) → after_step (sign_step sign) n s ≡ in_front (number sign n) s
sign-step Unsigned n s = refl
sign-step Plus n s = refl
sign-step Minus n s = refl

-- a list of terms is built, and becomes the arguments or members of a new term
closed :
    (f : GeneralTrees → GeneralTree) (ts : GeneralTrees) (rest after : List TermStep)
    → after_steps after ≡ (joined_trees ts no_trees, (after_steps rest).0 ∷ (after_steps rest).1)
    → close f (after_steps after).0 (after_steps after).1 ≡ in_front (f ts) (after_steps rest)
closed f ts rest after e =
    ap (λ (s : TermState). close f s.0 s.1) e
    ∙ ap (λ (us : GeneralTrees). close f us ((after_steps rest).0 ∷ (after_steps rest).1)) (joined-no_trees ts)

mutual
  pub after_steps-tree_steps :
      (t : GeneralTree) (rest : List TermStep) → after_steps (tree_steps t rest) ≡ in_front t (after_steps rest)
  after_steps-tree_steps (variable x) rest = refl
  after_steps-tree_steps (word f ts) rest =
      closed (word f) ts rest (trees_steps ts ((4, []) ∷ rest)) (after_steps-trees_steps ts ((4, []) ∷ rest))
  after_steps-tree_steps (dollar d ts) rest =
      closed (dollar d) ts rest (trees_steps ts ((4, []) ∷ rest)) (after_steps-trees_steps ts ((4, []) ∷ rest))
  after_steps-tree_steps (number sign n) rest = sign-step sign n (after_steps rest)
  after_steps-tree_steps (distinct d) rest = refl
  after_steps-tree_steps (negated f) rest = refl
  after_steps-tree_steps (listed ts) rest =
      closed listed ts rest (trees_steps ts ((4, []) ∷ rest)) (after_steps-trees_steps ts ((4, []) ∷ rest))
  after_steps-tree_steps (joined ts) rest =
      closed joined ts rest (trees_steps ts ((4, []) ∷ rest)) (after_steps-trees_steps ts ((4, []) ∷ rest))

  pub after_steps-trees_steps :
      (ts : GeneralTrees) (rest : List TermStep)
      → after_steps (trees_steps ts rest) ≡ (joined_trees ts (after_steps rest).0, (after_steps rest).1)
  after_steps-trees_steps no_trees rest = refl
  after_steps-trees_steps (tree_then t ts) rest =
      after_steps-tree_steps t (trees_steps ts rest)
      ∙ ap (λ (s : TermState). let r : TermState = (tree_then t s.0, s.1) in r) (after_steps-trees_steps ts rest)

abbrev pub general_code : Coded GeneralTree
general_code =
    code_by (List TermStep) (coded_list (coded× coded_ℕ (coded_list coded_ℕ))) (λ t. tree_steps t [])
    (λ steps. first_tree (after_steps steps).0) (λ t. ap (λ (s : TermState). first_tree s.0) (after_steps-tree_steps t []))
