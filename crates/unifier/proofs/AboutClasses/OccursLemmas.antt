-- Classes that contain each other, so that nothing unifies: the occurs check.
use Rattle.std.proofs.Common.{◌≡◌, ℕ, zero, suc, ◌+◌, ◌<◌, None, List, length, refl, ap, ◌∙◌, ⊎_elim, arith}
use Rattle.fol_base.specs.Tree.{Tree, variable, application, Trees, no_trees, tree_then}
use Rattle.fol_base.specs.Instance.{Substitution}
use Rattle.unifier.specs.declared.cells.Cell.{Cell}
use Rattle.unifier.specs.declared.cells.Cell.TheVariants.{Variable, Application, NoTrees, TreeThen}
use Rattle.unifier.specs.declared.layout.Layout.{Layout}
use Rattle.unifier.specs.declared.classes.Classes.{Classes}
use Rattle.unifier.specs.declared.placing.Placing.{Placing}
use Rattle.unifier.specs.Cells.{Value, tree, trees, as_tree, as_trees, cell_at, value_of, is_list, IsAfterParts, HasKinds, IsValuation}
use Rattle.unifier.specs.Layout.{IsLayout}
use Rattle.unifier.specs.Classes.{parent, schema, AreClasses, IsConstantOn, IsCongruent, IsDiscrete, AreClosed}
use Rattle.unifier.specs.Placing.{place, Waits, IsOrdering}
use Rattle.unifier.specs.Solution.{CannotMeet}
use Rattle.unifier.proofs.AboutClasses.CellLemmas.{kind_of, kind, kind_of-same, kinds-congruent, list-value, tree-value, values-congruent, discrete-constant}

-- ---- classes that contain each other

mutual
  tree_weight : Tree → ℕ
  tree_weight (variable v) = 1
  tree_weight (application f ts) = 1 + trees_weight ts

  trees_weight : Trees → ℕ
  trees_weight no_trees = 1
  trees_weight (tree_then t ts) = 1 + (tree_weight t + trees_weight ts)

value_weight : Value → ℕ
value_weight (tree t) = tree_weight t
value_weight (trees ts) = trees_weight ts

weight-application : (f : ℕ) (ts : Trees) → value_weight (tree (application f ts)) ≡ 1 + value_weight (trees ts)
unfolding value_weight tree_weight trees_weight
weight-application f ts = refl

weight-then : (t : Tree) (ts : Trees) → value_weight (trees (tree_then t ts)) ≡ 1 + (value_weight (tree t) + value_weight (trees ts))
unfolding value_weight tree_weight trees_weight
weight-then t ts = refl

pub record Stands (layout : Layout) (first : ℕ) (second : ℕ) (start : Classes) (c : Classes) : Type 0 where
  pub is_layout : IsLayout layout
  pub kinds : is_list (cell_at layout.cells.items first) ≡ is_list (cell_at layout.cells.items second)
  pub first_inside : first < length layout.cells.items
  pub second_inside : second < length layout.cells.items
  pub discrete : IsDiscrete (length layout.cells.items) start
  pub closed : AreClosed layout.cells.items first second start c

abbrev pub cells_of : Layout → List Cell
cells_of layout = layout.cells.items

-- what has one value on the two cells and on parts has one on each class
constant-on :
    (layout : Layout) (first second : ℕ) (start c : Classes) (f : ℕ → Value)
    → Stands layout first second start c → IsCongruent (cells_of layout) f → f first ≡ f second → IsConstantOn (length (cells_of layout)) c f
constant-on layout first second start c f h congruent same =
    h.closed.follows.sound f congruent same (discrete-constant (length (cells_of layout)) start f h.discrete)

pub valuation-constant :
    (layout : Layout) (first second : ℕ) (start c : Classes) (θ : Substitution) (val : ℕ → Value)
    → Stands layout first second start c → IsValuation θ (cells_of layout) val → val first ≡ val second
    → IsConstantOn (length (cells_of layout)) c val
valuation-constant layout first second start c θ val h valuation same =
    constant-on layout first second start c val h
    (values-congruent θ (cells_of layout) val h.is_layout.ordered h.is_layout.kinded valuation) same

pub schema-kind :
    (layout : Layout) (first second : ℕ) (start c : Classes) (i : ℕ)
    → Stands layout first second start c → i < length (cells_of layout)
    → is_list (cell_at (cells_of layout) (schema c (parent c i))) ≡ is_list (cell_at (cells_of layout) i)
schema-kind layout first second start c i h inside =
    let cells : List Cell = cells_of layout in
    let classes : AreClasses (length cells) c = h.closed.follows.classes in
    let constant : IsConstantOn (length cells) c (kind cells) =
    constant-on layout first second start c (kind cells) h (kinds-congruent cells h.is_layout.kinded) (ap kind_of h.kinds) in
    let up : parent c i < length cells = omega (arith, classes.down i inside) in
    kind_of-same (is_list (cell_at cells (schema c (parent c i)))) (is_list (cell_at cells i))
    ((constant (parent c i) up).1 ∙ (constant i inside).0)

-- a part of a waiting class waits, and weighs less
abbrev NoneWaits : Layout → Classes → Placing → (ℕ → Value) → ℕ → Type 0
NoneWaits layout c p val weight =
    (i : ℕ) → i < length (cells_of layout) → parent c i ≡ i → place p i ≡ None → value_weight (val i) < weight → ⊥

part-waits :
    (layout : Layout) (first second : ℕ) (start c : Classes) (p : Placing) (θ : Substitution) (val : ℕ → Value) (l : ℕ) (weight : ℕ)
    → Stands layout first second start c → IsConstantOn (length (cells_of layout)) c val
    → l < length (cells_of layout) → place p (parent c l) ≡ None → value_weight (val l) < weight → NoneWaits layout c p val weight → ⊥
part-waits layout first second start c p θ val l weight h constant inside none less below =
    let n : ℕ = length (cells_of layout) in
    let classes : AreClasses n c = h.closed.follows.classes in
    let up : parent c l < n = omega (arith, classes.down l inside) in
    below (parent c l) up (h.closed.settled.flat l inside) none (omega (arith, ap value_weight (constant l inside).0))

waits-by :
    (layout : Layout) (first second : ℕ) (start c : Classes) (p : Placing) (θ : Substitution) (val : ℕ → Value) (s weight : ℕ) (x : Cell)
    → Stands layout first second start c → IsValuation θ (cells_of layout) val → IsConstantOn (length (cells_of layout)) c val
    → s < length (cells_of layout) → IsAfterParts s x → HasKinds (cells_of layout) x → Waits c p x
    → value_weight (value_of θ val x) < suc weight → NoneWaits layout c p val weight → ⊥
waits-by layout first second start c p θ val s weight (Variable w) h valuation constant inside after kinds waits less below = waits
waits-by layout first second start c p θ val s weight (Application f l) h valuation constant inside after kinds waits less below =
    let list : val l ≡ trees (as_trees (val l)) = list-value θ (cells_of layout) val l valuation (omega (arith, after)) kinds in
    part-waits layout first second start c p θ val l weight h constant (omega (arith, after)) waits
    (omega (arith, less, weight-application f (as_trees (val l)), ap value_weight list)) below
waits-by layout first second start c p θ val s weight NoTrees h valuation constant inside after kinds waits less below = waits
waits-by layout first second start c p θ val s weight (TreeThen a b) h valuation constant inside after kinds waits less below =
    let one : val a ≡ tree (as_tree (val a)) = tree-value θ (cells_of layout) val a valuation (omega (arith, after.0)) kinds.0 in
    let list : val b ≡ trees (as_trees (val b)) = list-value θ (cells_of layout) val b valuation (omega (arith, after.1)) kinds.1 in
    ⊎_elim
    (λ none.
    part-waits layout first second start c p θ val a weight h constant (omega (arith, after.0)) none
    (omega (arith, less, weight-then (as_tree (val a)) (as_trees (val b)), ap value_weight one)) below)
    (λ none.
    part-waits layout first second start c p θ val b weight h constant (omega (arith, after.1)) none
    (omega (arith, less, weight-then (as_tree (val a)) (as_trees (val b)), ap value_weight list)) below)
    waits

none-waits :
    (layout : Layout) (first second : ℕ) (start c : Classes) (p : Placing) (θ : Substitution) (val : ℕ → Value) (weight : ℕ)
    → Stands layout first second start c → IsValuation θ (cells_of layout) val → IsConstantOn (length (cells_of layout)) c val
    → ((i : ℕ) → i < length (cells_of layout) → parent c i ≡ i → place p i ≡ None → Waits c p (cell_at (cells_of layout) (schema c i)))
    → NoneWaits layout c p val weight
none-waits layout first second start c p θ val zero h valuation constant waits i inside smallest none less = omega arith
none-waits layout first second start c p θ val (suc weight) h valuation constant waits i inside smallest none less =
    let cells : List Cell = cells_of layout in
    let s : ℕ = schema c i in
    let s_in : s < length cells = h.closed.follows.classes.inside i inside in
    let same : value_weight (val s) ≡ value_weight (val i) = ap value_weight (constant i inside).1 in
    let made : value_weight (val s) ≡ value_weight (value_of θ val (cell_at cells s)) = ap value_weight (valuation s s_in) in
    waits-by layout first second start c p θ val s weight (cell_at cells s) h valuation constant s_in
    (h.is_layout.ordered s s_in) (h.is_layout.kinded s s_in) (waits i inside smallest none) (omega arith)
    (none-waits layout first second start c p θ val weight h valuation constant waits)

pub stuck-cannot-meet :
    (layout : Layout) (first second : ℕ) (start c : Classes)
    → Stands layout first second start c → IsOrdering (cells_of layout) c None → CannotMeet (cells_of layout) first second
stuck-cannot-meet layout first second start c h stuck θ val valuation same =
    let constant : IsConstantOn (length (cells_of layout)) c val = valuation-constant layout first second start c θ val h valuation same in
    let one = stuck.2 in
    none-waits layout first second start c stuck.0 θ val (suc (value_weight (val one.0))) h valuation constant stuck.3
    one.0 one.1 one.2 one.3 (omega arith)
