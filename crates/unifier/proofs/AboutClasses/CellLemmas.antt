-- Kinds and values of cells: what cells of equal values have in common.
use Rattle.std.proofs.Common.{◌≡◌, ℕ, ◌<◌, Bool, true, false, ◌==◌, cond, List, length, refl, ap, sym, ◌∙◌, arith, eq-eqb}
use Rattle.std.proofs.lemmas.Bool.{true≢false}
use Rattle.fol_base.specs.Tree.{variable, application, no_trees, tree_then}
use Rattle.fol_base.specs.Instance.{Substitution}
use Rattle.unifier.specs.declared.cells.Cell.{Cell}
use Rattle.unifier.specs.declared.cells.Cell.TheVariants.{Variable, Application, NoTrees, TreeThen}
use Rattle.unifier.specs.declared.cells.Relation.{Relation}
use Rattle.unifier.specs.declared.cells.Relation.TheVariants.{Same, Clash, Parts}
use Rattle.unifier.specs.declared.layout.Layout.{Layout}
use Rattle.unifier.specs.declared.classes.Classes.{Classes}
use Rattle.unifier.specs.Cells.{Value, tree, trees, as_tree, as_trees, cell_at, value_of, is_list, relate, IsAfterParts, AreOrdered, HasKinds, AreKinded, IsValuation}
use Rattle.unifier.specs.Layout.{IsLayout}
use Rattle.unifier.specs.Classes.{IsConstantOn, IsCongruent, IsDiscrete, CannotFollow, PartsAgree}
use Rattle.unifier.specs.Solution.{CannotMeet}

-- ---- kinds

pub kind_of : Bool → Value
kind_of true = trees no_trees
kind_of false = tree (variable 0)

abbrev pub kind : List Cell → ℕ → Value
kind cells i = kind_of (is_list (cell_at cells i))

pub kind_of-same : (a b : Bool) → kind_of a ≡ kind_of b → a ≡ b
unfolding kind_of
kind_of-same true true e = refl
kind_of-same true false e = cc
kind_of-same false true e = cc
kind_of-same false false e = refl

agree-either :
    (f : ℕ → Value) (test : Bool) (r : Relation)
    → (test ≡ true → PartsAgree f r) → PartsAgree f (cond test r Clash)
agree-either f true r h = h refl
agree-either f false r h = tt

kinds-agree : (cells : List Cell) (x y : Cell) → HasKinds cells x → HasKinds cells y → PartsAgree (kind cells) (relate x y)
kinds-agree cells (Variable w) y hx hy = tt
kinds-agree cells (Application f l) (Variable w) hx hy = tt
kinds-agree cells (Application f l) (Application g m) hx hy =
    let same : kind cells l ≡ kind cells m = ap kind_of (hx ∙ sym hy) in
    agree-either (kind cells) (f == g) (Parts l m l m) (λ _. (same, same))
kinds-agree cells (Application f l) NoTrees hx hy = tt
kinds-agree cells (Application f l) (TreeThen a b) hx hy = tt
kinds-agree cells NoTrees (Variable w) hx hy = tt
kinds-agree cells NoTrees (Application g m) hx hy = tt
kinds-agree cells NoTrees NoTrees hx hy = tt
kinds-agree cells NoTrees (TreeThen a b) hx hy = tt
kinds-agree cells (TreeThen a b) (Variable w) hx hy = tt
kinds-agree cells (TreeThen a b) (Application g m) hx hy = tt
kinds-agree cells (TreeThen a b) NoTrees hx hy = tt
kinds-agree cells (TreeThen a b) (TreeThen d e) hx hy = (ap kind_of (hx.0 ∙ sym hy.0), ap kind_of (hx.1 ∙ sym hy.1))

pub kinds-congruent : (cells : List Cell) → AreKinded cells → IsCongruent cells (kind cells)
kinds-congruent cells kinded i j i_in j_in same = kinds-agree cells (cell_at cells i) (cell_at cells j) (kinded i i_in) (kinded j j_in)

-- ---- values and their kinds

made-list : (θ : Substitution) (f : ℕ → Value) (x : Cell) → is_list x ≡ true → value_of θ f x ≡ trees (as_trees (value_of θ f x))
made-list θ f (Variable w) h = cc
made-list θ f (Application s l) h = cc
made-list θ f NoTrees h = refl
made-list θ f (TreeThen a b) h = refl

pub made-tree : (θ : Substitution) (f : ℕ → Value) (x : Cell) → is_list x ≡ false → value_of θ f x ≡ tree (as_tree (value_of θ f x))
made-tree θ f (Variable w) h = refl
made-tree θ f (Application s l) h = refl
made-tree θ f NoTrees h = cc
made-tree θ f (TreeThen a b) h = cc

pub list-value :
    (θ : Substitution) (cells : List Cell) (val : ℕ → Value) (i : ℕ)
    → IsValuation θ cells val → i < length cells → is_list (cell_at cells i) ≡ true → val i ≡ trees (as_trees (val i))
list-value θ cells val i h inside list =
    let e = h i inside in
    e ∙ made-list θ val (cell_at cells i) list ∙ ap (λ v. trees (as_trees v)) (sym e)

pub tree-value :
    (θ : Substitution) (cells : List Cell) (val : ℕ → Value) (i : ℕ)
    → IsValuation θ cells val → i < length cells → is_list (cell_at cells i) ≡ false → val i ≡ tree (as_tree (val i))
tree-value θ cells val i h inside list =
    let e = h i inside in
    e ∙ made-tree θ val (cell_at cells i) list ∙ ap (λ v. tree (as_tree v)) (sym e)

-- parts of equal values are equal
values-agree :
    (θ : Substitution) (cells : List Cell) (val : ℕ → Value) (i j : ℕ) (x y : Cell)
    → IsValuation θ cells val → i < length cells → j < length cells
    → IsAfterParts i x → IsAfterParts j y → HasKinds cells x → HasKinds cells y
    → value_of θ val x ≡ value_of θ val y → PartsAgree val (relate x y)
values-agree θ cells val i j (Variable w) y h i_in j_in ax ay hx hy e = tt
values-agree θ cells val i j (Application f l) (Variable w) h i_in j_in ax ay hx hy e = tt
values-agree θ cells val i j (Application f l) (Application g m) h i_in j_in ax ay hx hy e =
    let parts : tree (application f (as_trees (val l))) ≡ tree (application g (as_trees (val m))) = e in
    let lists : as_trees (val l) ≡ as_trees (val m) = cc in
    let same : val l ≡ val m =
    list-value θ cells val l h (omega arith) hx ∙ ap trees lists ∙ sym (list-value θ cells val m h (omega arith) hy) in
    agree-either val (f == g) (Parts l m l m) (λ _. (same, same))
values-agree θ cells val i j (Application f l) NoTrees h i_in j_in ax ay hx hy e = tt
values-agree θ cells val i j (Application f l) (TreeThen a b) h i_in j_in ax ay hx hy e = tt
values-agree θ cells val i j NoTrees (Variable w) h i_in j_in ax ay hx hy e = tt
values-agree θ cells val i j NoTrees (Application g m) h i_in j_in ax ay hx hy e = tt
values-agree θ cells val i j NoTrees NoTrees h i_in j_in ax ay hx hy e = tt
values-agree θ cells val i j NoTrees (TreeThen a b) h i_in j_in ax ay hx hy e = tt
values-agree θ cells val i j (TreeThen a b) (Variable w) h i_in j_in ax ay hx hy e = tt
values-agree θ cells val i j (TreeThen a b) (Application g m) h i_in j_in ax ay hx hy e = tt
values-agree θ cells val i j (TreeThen a b) NoTrees h i_in j_in ax ay hx hy e = tt
values-agree θ cells val i j (TreeThen a b) (TreeThen d k) h i_in j_in ax ay hx hy e =
    let parts : trees (tree_then (as_tree (val a)) (as_trees (val b))) ≡ trees (tree_then (as_tree (val d)) (as_trees (val k))) = e in
    let firsts : as_tree (val a) ≡ as_tree (val d) = cc in
    let rests : as_trees (val b) ≡ as_trees (val k) = cc in (
      tree-value θ cells val a h (omega (arith, ax.0)) hx.0 ∙ ap tree firsts ∙ sym (tree-value θ cells val d h (omega (arith, ay.0)) hy.0),
      list-value θ cells val b h (omega (arith, ax.1)) hx.1 ∙ ap trees rests ∙ sym (list-value θ cells val k h (omega (arith, ay.1)) hy.1),
    )

pub values-congruent :
    (θ : Substitution) (cells : List Cell) (val : ℕ → Value)
    → AreOrdered cells → AreKinded cells → IsValuation θ cells val → IsCongruent cells val
values-congruent θ cells val ordered kinded h i j i_in j_in same =
    values-agree θ cells val i j (cell_at cells i) (cell_at cells j) h i_in j_in (ordered i i_in) (ordered j j_in) (kinded i i_in) (kinded j j_in)
    (sym (h i i_in) ∙ same ∙ h j j_in)

clash-parts : (test : Bool) (r : Relation) → cond test r Clash ≡ Clash → (r ≡ Clash → ⊥) → test ≡ false
clash-parts true r e differs = absurd (differs e)
clash-parts false r e differs = refl

-- values of cells that clash differ
clash-differ : (θ : Substitution) (val : ℕ → Value) (x y : Cell) → relate x y ≡ Clash → value_of θ val x ≡ value_of θ val y → ⊥
clash-differ θ val (Variable w) y r e = let wrong : Same ≡ Clash = r in cc
clash-differ θ val (Application f l) (Variable w) r e = let wrong : Same ≡ Clash = r in cc
clash-differ θ val (Application f l) (Application g m) r e =
    let differ : (f == g) ≡ false = clash-parts (f == g) (Parts l m l m) r (λ is. cc) in
    let parts : tree (application f (as_trees (val l))) ≡ tree (application g (as_trees (val m))) = e in
    let heads : f ≡ g = cc in
    true≢false (sym (eq-eqb f g heads) ∙ differ)
clash-differ θ val (Application f l) NoTrees r e = let wrong : tree (application f (as_trees (val l))) ≡ trees no_trees = e in cc
clash-differ θ val (Application f l) (TreeThen a b) r e =
    let wrong : tree (application f (as_trees (val l))) ≡ trees (tree_then (as_tree (val a)) (as_trees (val b))) = e in cc
clash-differ θ val NoTrees (Variable w) r e = let wrong : Same ≡ Clash = r in cc
clash-differ θ val NoTrees (Application g m) r e = let wrong : trees no_trees ≡ tree (application g (as_trees (val m))) = e in cc
clash-differ θ val NoTrees NoTrees r e = let wrong : Same ≡ Clash = r in cc
clash-differ θ val NoTrees (TreeThen a b) r e = let wrong : trees no_trees ≡ trees (tree_then (as_tree (val a)) (as_trees (val b))) = e in cc
clash-differ θ val (TreeThen a b) (Variable w) r e = let wrong : Same ≡ Clash = r in cc
clash-differ θ val (TreeThen a b) (Application g m) r e =
    let wrong : trees (tree_then (as_tree (val a)) (as_trees (val b))) ≡ tree (application g (as_trees (val m))) = e in cc
clash-differ θ val (TreeThen a b) NoTrees r e = let wrong : trees (tree_then (as_tree (val a)) (as_trees (val b))) ≡ trees no_trees = e in cc
clash-differ θ val (TreeThen a b) (TreeThen d k) r e = let wrong : Parts a d b k ≡ Clash = r in cc

-- ---- the start

pub discrete-constant : (n : ℕ) (c : Classes) (f : ℕ → Value) → IsDiscrete n c → IsConstantOn n c f
discrete-constant n c f discrete i inside = (ap f (discrete i inside).0, ap f (discrete i inside).1)

pub refuted-cannot-meet :
    (layout : Layout) (first second : ℕ) (c : Classes)
    → IsLayout layout → IsDiscrete (length layout.cells.items) c → CannotFollow layout.cells.items first second c
    → CannotMeet layout.cells.items first second
refuted-cannot-meet layout first second c h discrete refuted θ val valuation same =
    let cells : List Cell = layout.cells.items in
    let congruent : IsCongruent cells val = values-congruent θ cells val h.ordered h.kinded valuation in
    let forced : val refuted.one ≡ val refuted.other =
    refuted.forced val congruent same (discrete-constant (length cells) c val discrete) in
    clash-differ θ val (cell_at cells refuted.one) (cell_at cells refuted.other) refuted.clash
    (sym (valuation refuted.one refuted.one_inside) ∙ forced ∙ valuation refuted.other refuted.other_inside)
