-- Values of cells, and the theorem: what is closed and in order is a most general unifier.
use Rattle.std.proofs.Common.{◌≡◌, ℕ, zero, suc, ◌+◌, ◌<◌, List, [], ◌∷◌, ◌++◌, length, refl, ap, ap₂, sym, ◌∙◌, subst, arith}
use Rattle.std.proofs.lemmas.List.{length-append}
use Rattle.std.proofs.Math.ListN.{get_or-append}
use Rattle.std.proofs.Math.Seq.{get_or-append_seam}
use Rattle.fol_base.specs.Tree.{Tree, variable, application, no_trees, tree_then}
use Rattle.fol_base.specs.Instance.{Substitution, instance, instances}
use Rattle.unifier.specs.declared.cells.Cell.{Cell}
use Rattle.unifier.specs.declared.cells.Cell.TheVariants.{Variable, Application, NoTrees, TreeThen}
use Rattle.unifier.specs.Cells.{Value, tree, trees, as_tree, as_trees, cell_at, value_of, IsAfterParts, AreOrdered, IsValuation}
use Rattle.unifier.specs.Solution.{value_in, values_after, value_at}

-- ---- the values of cells, one after another

abbrev Values : Type 0
Values = List Value

length-values : (θ : Substitution) (vs : Values) (cs : List Cell) → length (values_after θ vs cs) ≡ length vs + length cs
length-values θ vs [] = omega arith
length-values θ vs (c ∷ cs) =
    omega (arith, length-values θ (vs ++ value_of θ (value_in vs) c ∷ []) cs, length-append vs (value_of θ (value_in vs) c ∷ []))

-- what is there stays
values-front : (θ : Substitution) (vs : Values) (cs : List Cell) (i : ℕ) → i < length vs → value_in (values_after θ vs cs) i ≡ value_in vs i
values-front θ vs [] i h = refl
values-front θ vs (c ∷ cs) i h =
    let v : Value = value_of θ (value_in vs) c in
    values-front θ (vs ++ v ∷ []) cs i (omega (arith, length-append vs (v ∷ []))) ∙ get_or-append vs (v ∷ []) (trees no_trees) i h

-- the value of a cell depends on its parts alone
value-agree : (θ : Substitution) (f g : ℕ → Value) (i : ℕ) (c : Cell) → IsAfterParts i c → ((j : ℕ) → j < i → f j ≡ g j) → value_of θ f c ≡ value_of θ g c
value-agree θ f g i (Variable w) after h = refl
value-agree θ f g i (Application s l) after h = ap (λ v. tree (application s (as_trees v))) (h l after)
value-agree θ f g i NoTrees after h = refl
value-agree θ f g i (TreeThen a b) after h = ap₂ (λ v w. trees (tree_then (as_tree v) (as_trees w))) (h a after.0) (h b after.1)

-- cells after those that have values: each has the value that its parts make
values-made :
    (θ : Substitution) (vs : Values) (cs : List Cell) (k : ℕ)
    → ((j : ℕ) → j < length cs → IsAfterParts (length vs + j) (cell_at cs j)) → k < length cs
    → value_in (values_after θ vs cs) (length vs + k) ≡ value_of θ (value_in (values_after θ vs cs)) (cell_at cs k)
values-made θ vs [] k ordered h = absurd (omega arith)
values-made θ vs (c ∷ cs) zero ordered h =
    let v : Value = value_of θ (value_in vs) c in
    let more : Values = vs ++ v ∷ [] in
    let len : length more ≡ length vs + 1 = length-append vs (v ∷ []) in
    let at : length vs + zero ≡ length vs = omega arith in
    ap (value_in (values_after θ more cs)) at
    ∙ values-front θ more cs (length vs) (omega (arith, len))
    ∙ get_or-append_seam vs v [] (trees no_trees)
    ∙ value-agree θ (value_in vs) (value_in (values_after θ more cs)) (length vs + zero) c (ordered 0 h)
    (λ j less.
    sym (values-front θ more cs j (omega (arith, len)) ∙ get_or-append vs (v ∷ []) (trees no_trees) j (omega (arith, less))))
values-made θ vs (c ∷ cs) (suc k) ordered h =
    let v : Value = value_of θ (value_in vs) c in
    let more : Values = vs ++ v ∷ [] in
    let len : length more ≡ length vs + 1 = length-append vs (v ∷ []) in
    let at : length vs + suc k ≡ length more + k = omega (arith, len) in
    ap (value_in (values_after θ more cs)) at
    ∙ values-made θ more cs k
    (λ j less.
    let same : length vs + suc j ≡ length more + j = omega (arith, len) in
    subst (λ n. IsAfterParts n (cell_at cs j)) same (ordered (suc j) (omega arith)))
    (omega arith)

-- ordered cells have values
pub value_at-valuation : (θ : Substitution) (cs : List Cell) → AreOrdered cs → IsValuation θ cs (value_at θ cs)
value_at-valuation θ cs ordered i h =
    let at : 0 + i ≡ i = omega arith in
    ap (value_at θ cs) (sym at)
    ∙ values-made θ [] cs i
    (λ j less. let same : 0 + j ≡ j = omega arith in subst (λ n. IsAfterParts n (cell_at cs j)) (sym same) (ordered j less))
    h

-- ---- values under a substitution

pub instance_value : Substitution → Value → Value
instance_value θ (tree t) = tree (instance θ t)
instance_value θ (trees ts) = trees (instances θ ts)

as_trees-instance : (θ : Substitution) (v : Value) → instances θ (as_trees v) ≡ as_trees (instance_value θ v)
unfolding instance_value
as_trees-instance θ (tree t) = refl
as_trees-instance θ (trees ts) = refl

as_tree-instance : (θ : Substitution) (v : Value) → instance θ (as_tree v) ≡ as_tree (instance_value θ v)
unfolding instance_value
as_tree-instance θ (tree t) = refl
as_tree-instance θ (trees ts) = refl

value-instance : (θ : Substitution) (f : ℕ → Value) (c : Cell) → instance_value θ (value_of variable f c) ≡ value_of θ (λ i. instance_value θ (f i)) c
unfolding instance_value
value-instance θ f (Variable w) = refl
value-instance θ f (Application s l) = ap (λ us. tree (application s us)) (as_trees-instance θ (f l))
value-instance θ f NoTrees = refl
value-instance θ f (TreeThen a b) = ap₂ (λ u us. trees (tree_then u us)) (as_tree-instance θ (f a)) (as_trees-instance θ (f b))

-- the instances of the values are the values under the substitution
pub valuation-instance : (θ : Substitution) (cs : List Cell) (f : ℕ → Value) → IsValuation variable cs f → IsValuation θ cs (λ i. instance_value θ (f i))
valuation-instance θ cs f h i less = ap (instance_value θ) (h i less) ∙ value-instance θ f (cell_at cs i)

-- a tree's value under a substitution is the instance of a tree
pub tree-instance : (θ : Substitution) (t : Tree) (v : Value) → tree t ≡ instance_value θ v → t ≡ instance θ (as_tree v)
unfolding instance_value
tree-instance θ t (tree u) e = cc
tree-instance θ t (trees us) e = cc
