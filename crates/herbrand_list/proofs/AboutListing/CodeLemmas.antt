-- Codes of terms as numbers, one after another.
use Rattle.std.proofs.Common.{◌≡◌, ℕ, ◌+◌, ◌<◌, List, [], ◌∷◌, ◌++◌, length, map, take, get_or, append_assoc, refl, sym, ap, ◌∙◌}
use Rattle.fol_base.specs.Tree.{Tree, variable, application, Trees, no_trees, tree_then, trees_of}
use Rattle.fol_base.specs.TreeCode.{Step, tree_steps, trees_steps}
use Rattle.fol_base.specs.Term.{tree_of}
use Rattle.fol_base.specs.declared.term.Term.{Term}
use Rattle.fol_base.proofs.ListLemmas.{map-take_more_item}
use Rattle.herbrand_list.specs.Worked.{step_numbers}

mutual
  tree-then : (t : Tree) (rest : List Step) → step_numbers (tree_steps t rest) ≡ step_numbers (tree_steps t []) ++ step_numbers rest
  tree-then (variable v) rest = refl
  tree-then (application f ts) rest =
      ap (λ ns. 1 ∷ f ∷ ns)
      (trees-then ts ((2, 0) ∷ rest)
      ∙ sym (append_assoc (step_numbers (trees_steps ts [])) (2 ∷ 0 ∷ []) (step_numbers rest))
      ∙ ap (λ ns. ns ++ step_numbers rest) (sym (trees-then ts ((2, 0) ∷ []))))

  pub trees-then : (ts : Trees) (rest : List Step) → step_numbers (trees_steps ts rest) ≡ step_numbers (trees_steps ts []) ++ step_numbers rest
  trees-then no_trees rest = refl
  trees-then (tree_then t ts) rest =
      tree-then t (trees_steps ts rest)
      ∙ ap (λ ns. step_numbers (tree_steps t []) ++ ns) (trees-then ts rest)
      ∙ sym (append_assoc (step_numbers (tree_steps t [])) (step_numbers (trees_steps ts [])) (step_numbers rest))
      ∙ ap (λ ns. ns ++ step_numbers rest) (sym (tree-then t (trees_steps ts [])))

trees-pushed :
    (ts : List Tree) (t : Tree)
    → step_numbers (trees_steps (trees_of (ts ++ t ∷ [])) []) ≡ step_numbers (trees_steps (trees_of ts) []) ++ step_numbers (tree_steps t [])
trees-pushed [] t = refl
trees-pushed (u ∷ ts) t =
    tree-then u (trees_steps (trees_of (ts ++ t ∷ [])) [])
    ∙ ap (λ ns. step_numbers (tree_steps u []) ++ ns) (trees-pushed ts t)
    ∙ sym (append_assoc (step_numbers (tree_steps u [])) (step_numbers (trees_steps (trees_of ts) [])) (step_numbers (tree_steps t [])))
    ∙ ap (λ ns. ns ++ step_numbers (tree_steps t [])) (sym (tree-then u (trees_steps (trees_of ts) [])))

-- the code of one more term
pub codes-more :
    (xs : List Term) (i : ℕ) (x : Term) → i < length xs → x ≡ get_or xs i x
    → step_numbers (trees_steps (trees_of (map tree_of (take (i + 1) xs))) [])
    ≡ step_numbers (trees_steps (trees_of (map tree_of (take i xs))) []) ++ step_numbers (tree_steps (tree_of x) [])
codes-more xs i x h r =
    ap (λ ts. step_numbers (trees_steps (trees_of ts) [])) (map-take_more_item tree_of xs i x h r)
    ∙ trees-pushed (map tree_of (take i xs)) (tree_of x)

-- the code of an application comes after what was there
pub application-code :
    (key first second made : List ℕ) (f : ℕ) (ts : Trees) → first ≡ key ++ 1 ∷ f ∷ [] → second ≡ first ++ step_numbers (trees_steps ts [])
    → made ≡ second ++ 2 ∷ 0 ∷ [] → made ≡ key ++ step_numbers (tree_steps (application f ts) [])
application-code key first second made f ts a b c =
    c
    ∙ ap (λ ns. ns ++ 2 ∷ 0 ∷ []) (b ∙ ap (λ ns. ns ++ step_numbers (trees_steps ts [])) a)
    ∙ ap (λ ns. ns ++ 2 ∷ 0 ∷ []) (append_assoc key (1 ∷ f ∷ []) (step_numbers (trees_steps ts [])))
    ∙ append_assoc key (1 ∷ f ∷ step_numbers (trees_steps ts [])) (2 ∷ 0 ∷ [])
    ∙ ap (λ ns. key ++ 1 ∷ f ∷ ns) (sym (trees-then ts ((2, 0) ∷ [])))
