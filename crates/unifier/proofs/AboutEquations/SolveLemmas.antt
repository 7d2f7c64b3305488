-- What is closed and in order is a most general unifier.
use Rattle.std.proofs.Common.{◌≡◌, ℕ, zero, suc, ◌<◌, Bool, true, false, ◌==◌, cond, Option, None, Some, List, [], ◌∷◌, length, map, refl, ap, ap₂, sym, ◌∙◌, subst, ⊎_elim, arith}
use Rattle.std.specs.Prelude.{unwrap_or, option_map}
use Rattle.std.proofs.lemmas.Bool.{cond-true, cond-false, cases_Bool, eqb-true}
use Rattle.fol_base.specs.Tree.{variable, application, tree_then}
use Rattle.fol_base.specs.Instance.{Substitution, instance}
use Rattle.unifier.specs.declared.cells.Cell.{Cell}
use Rattle.unifier.specs.declared.cells.Cell.TheVariants.{Variable, Application, NoTrees, TreeThen}
use Rattle.unifier.specs.declared.cells.Relation.{Relation}
use Rattle.unifier.specs.declared.cells.Relation.TheVariants.{Clash, Parts}
use Rattle.unifier.specs.declared.layout.Place.{Place}
use Rattle.unifier.specs.declared.layout.Layout.{Layout}
use Rattle.unifier.specs.declared.classes.Classes.{Classes}
use Rattle.unifier.specs.declared.placing.Placing.{Placing}
use Rattle.unifier.specs.Cells.{Value, tree, trees, as_tree, as_trees, cell_at, value_of, is_list, is_variable, relate, IsAfterParts, IsValuation}
use Rattle.unifier.specs.Layout.{cell_of, IsLayout}
use Rattle.unifier.specs.Classes.{parent, schema, AreClasses, IsConstantOn, ArePartsJoined}
use Rattle.unifier.specs.Placing.{place, IsPlacedAs, IsPlacing, IsPlaced}
use Rattle.unifier.specs.Solution.{value_at, bound, joint_by, Meets}
use Rattle.unifier.specs.Solving.{relocated, IsRelocated}
use Rattle.unifier.proofs.AboutLayouts.ValueLemmas.{value_at-valuation, instance_value, valuation-instance, tree-instance}
use Rattle.unifier.proofs.AboutClasses.CellLemmas.{made-tree}
use Rattle.unifier.proofs.AboutClasses.OccursLemmas.{Stands, cells_of, valuation-constant, schema-kind}

-- ---- the places of cells

abbrev pub spot : Classes → Placing → ℕ → ℕ
spot c p i = unwrap_or (place p (parent c i)) 0

pub spot-is : (c : Classes) (p : Placing) (i k : ℕ) → place p (parent c i) ≡ Some k → spot c p i ≡ k
spot-is c p i k e = ap (λ o. unwrap_or o 0) e

-- the cells in order, with the places of the variables
pub record IsSolved (layout : Layout) (c : Classes) (p : Placing) (ps : List Place) : Type 0 where
  pub placing : IsPlacing layout.cells.items c p
  pub all_placed : (i : ℕ) → i < length layout.cells.items → parent c i ≡ i → IsPlaced p i
  pub places : IsRelocated c p layout.places.items ps

pub cell_of-relocated : (c : Classes) (p : Placing) (w : ℕ) (es : List Place) → cell_of w (map (relocated c p) es) ≡ option_map (spot c p) (cell_of w es)
cell_of-relocated c p w [] = refl
cell_of-relocated c p w (e ∷ es) =
    ⊎_elim
    (λ same.
    cond-true (w == e.code) (Some (spot c p e.cell)) (cell_of w (map (relocated c p) es)) same
    ∙ sym (ap (option_map (spot c p)) (cond-true (w == e.code) (Some e.cell) (cell_of w es) same)))
    (λ other.
    cond-false (w == e.code) (Some (spot c p e.cell)) (cell_of w (map (relocated c p) es)) other
    ∙ cell_of-relocated c p w es
    ∙ sym (ap (option_map (spot c p)) (cond-false (w == e.code) (Some e.cell) (cell_of w es) other)))
    (cases_Bool (w == e.code))

pub bound-place :
    (layout : Layout) (c : Classes) (p : Placing) (ps : List Place) (w i : ℕ)
    → IsSolved layout c p ps → cell_of w layout.places.items ≡ Some i → cell_of w ps ≡ Some (spot c p i)
bound-place layout c p ps w i solved found =
    ap (cell_of w) solved.places ∙ cell_of-relocated c p w layout.places.items ∙ ap (option_map (spot c p)) found

pub placed-kind : (c : Classes) (p : Placing) (x q : Cell) → IsPlacedAs c p x q → is_list q ≡ is_list x
placed-kind c p (Variable w) q h = ap is_list h
placed-kind c p (Application f l) q h = ap is_list h.2
placed-kind c p NoTrees q h = ap is_list h
placed-kind c p (TreeThen a d) q h = ap is_list h.4

-- a cell's class has its place
pub spot-placed :
    (layout : Layout) (first second : ℕ) (start c : Classes) (p : Placing) (ps : List Place) (i : ℕ)
    → Stands layout first second start c → IsSolved layout c p ps → i < length (cells_of layout)
    → (k : ℕ) × (place p (parent c i) ≡ Some k) × (k < length p.cells.items) × IsPlacedAs c p (cell_at (cells_of layout) (schema c (parent c i))) (cell_at p.cells.items k)
spot-placed layout first second start c p ps i h solved inside =
    let up : parent c i < length (cells_of layout) = omega (arith, h.closed.follows.classes.down i inside) in
    let placed = solved.all_placed (parent c i) up (h.closed.settled.flat i inside) in
    let there = solved.placing.placed (parent c i) placed.0 up placed.1 in
    (placed.0, placed.1, there.inside, there.as_schema)

-- ---- the bindings unify

joined-either : (c : Classes) (test : Bool) (r : Relation) → ArePartsJoined c (cond test r Clash) → (test ≡ true) × ArePartsJoined c r
joined-either c true r h = (refl, h)
joined-either c false r h = absurd h

-- the value at a cell's place is made of the values at its parts' places
made-at :
    (c : Classes) (p : Placing) (θ : Substitution) (v : ℕ → Value) (x y q : Cell) (k : ℕ)
    → (is_variable x ≡ false → is_variable y ≡ false) → ArePartsJoined c (relate x y) → IsPlacedAs c p y q
    → v k ≡ value_of variable v q → ((w : ℕ) → x ≡ Variable w → v k ≡ tree (θ w))
    → v k ≡ value_of θ (λ i. v (spot c p i)) x
made-at c p θ v (Variable w) y q k telling joined placed made here = here w refl
made-at c p θ v (Application f l) (Variable w) q k telling joined placed made here =
    let wrong : true ≡ false = telling refl in cc
made-at c p θ v (Application f l) (Application g m) q k telling joined placed made here =
    let both = joined-either c (f == g) (Parts l m l m) joined in
    let at : spot c p l ≡ placed.0 = spot-is c p l placed.0 (ap (place p) both.1.0 ∙ placed.1) in
    made
    ∙ ap (value_of variable v) placed.2
    ∙ ap₂ (λ s j. tree (application s (as_trees (v j)))) (sym (eqb-true f g both.0)) (sym at)
made-at c p θ v (Application f l) NoTrees q k telling joined placed made here = absurd joined
made-at c p θ v (Application f l) (TreeThen a d) q k telling joined placed made here = absurd joined
made-at c p θ v NoTrees (Variable w) q k telling joined placed made here = let wrong : true ≡ false = telling refl in cc
made-at c p θ v NoTrees (Application g m) q k telling joined placed made here = absurd joined
made-at c p θ v NoTrees NoTrees q k telling joined placed made here = made ∙ ap (value_of variable v) placed
made-at c p θ v NoTrees (TreeThen a d) q k telling joined placed made here = absurd joined
made-at c p θ v (TreeThen a d) (Variable w) q k telling joined placed made here = let wrong : true ≡ false = telling refl in cc
made-at c p θ v (TreeThen a d) (Application g m) q k telling joined placed made here = absurd joined
made-at c p θ v (TreeThen a d) NoTrees q k telling joined placed made here = absurd joined
made-at c p θ v (TreeThen a d) (TreeThen e g) q k telling joined placed made here =
    let at_first : spot c p a ≡ placed.0 = spot-is c p a placed.0 (ap (place p) joined.0 ∙ placed.2) in
    let at_rest : spot c p d ≡ placed.1 = spot-is c p d placed.1 (ap (place p) joined.1 ∙ placed.3) in
    made
    ∙ ap (value_of variable v) placed.4
    ∙ ap₂ (λ i j. trees (tree_then (as_tree (v i)) (as_trees (v j)))) (sym at_first) (sym at_rest)

abbrev own_value : Placing → ℕ → Value
own_value p = value_at variable p.cells.items

joint-is :
    (layout : Layout) (c : Classes) (p : Placing) (ps : List Place) (w i : ℕ)
    → IsSolved layout c p ps → cell_of w layout.places.items ≡ Some i → joint_by p.cells.items ps w ≡ as_tree (own_value p (spot c p i))
joint-is layout c p ps w i solved found =
    ap (λ o. bound p.cells.items o w) (bound-place layout c p ps w i solved found)

solved-valuation :
    (layout : Layout) (first second : ℕ) (start c : Classes) (p : Placing) (ps : List Place)
    → Stands layout first second start c → IsSolved layout c p ps
    → IsValuation (joint_by p.cells.items ps) (cells_of layout) (λ i. own_value p (spot c p i))
solved-valuation layout first second start c p ps h solved i inside =
    let cells : List Cell = cells_of layout in
    let v : ℕ → Value = own_value p in
    let there = spot-placed layout first second start c p ps i h solved inside in
    let k : ℕ = there.0 in
    let at : spot c p i ≡ k = spot-is c p i k there.1 in
    let q : Cell = cell_at p.cells.items k in
    let y : Cell = cell_at cells (schema c (parent c i)) in
    let made : v k ≡ value_of variable v q = value_at-valuation variable p.cells.items solved.placing.ordered k there.2 in
    let here : (w : ℕ) → cell_at cells i ≡ Variable w → v k ≡ tree (joint_by p.cells.items ps w) = λ w is.
    let kind_q : is_list q ≡ false =
    placed-kind c p y q there.3 ∙ schema-kind layout first second start c i h inside ∙ ap is_list is in
    made ∙ made-tree variable v q kind_q ∙ ap (λ u. tree (as_tree u)) (sym made)
    ∙ ap (λ j. tree (as_tree (v j))) (sym at)
    ∙ ap tree (sym (joint-is layout c p ps w i solved (h.is_layout.placed i w inside is))) in
    ap v at
    ∙ made-at c p (joint_by p.cells.items ps) v (cell_at cells i) y q k (h.closed.settled.telling i inside) (h.closed.closed i inside) there.3 made here

-- ---- and are most general

abbrev Follow : Layout → Classes → Placing → (ℕ → Value) → (ℕ → Value) → ℕ → Type 0
Follow layout c p val other bound =
    (i k : ℕ) → k < bound → i < length (cells_of layout) → place p i ≡ Some k → val i ≡ other k

value-follows :
    (layout : Layout) (c : Classes) (p : Placing) (θ : Substitution) (val other : ℕ → Value) (s k : ℕ) (x q : Cell)
    → AreClasses (length (cells_of layout)) c → IsConstantOn (length (cells_of layout)) c val
    → s < length (cells_of layout) → IsAfterParts s x → IsAfterParts k q → IsPlacedAs c p x q → Follow layout c p val other k
    → value_of θ val x ≡ value_of θ other q
value-follows layout c p θ val other s k (Variable w) q classes constant inside after q_after placed follow = ap (value_of θ other) (sym placed)
value-follows layout c p θ val other s k (Application f l) q classes constant inside after q_after placed follow =
    let l_in : l < length (cells_of layout) = omega (arith, after) in
    let less : placed.0 < k = subst (IsAfterParts k) placed.2 q_after in
    let same : val l ≡ other placed.0 =
    sym (constant l l_in).0 ∙ follow (parent c l) placed.0 less (omega (arith, classes.down l l_in)) placed.1 in
    ap (λ v. tree (application f (as_trees v))) same ∙ ap (value_of θ other) (sym placed.2)
value-follows layout c p θ val other s k NoTrees q classes constant inside after q_after placed follow = ap (value_of θ other) (sym placed)
value-follows layout c p θ val other s k (TreeThen a d) q classes constant inside after q_after placed follow =
    let a_in : a < length (cells_of layout) = omega (arith, after.0) in
    let d_in : d < length (cells_of layout) = omega (arith, after.1) in
    let less : (placed.0 < k) × (placed.1 < k) = subst (IsAfterParts k) placed.4 q_after in
    let firsts : val a ≡ other placed.0 =
    sym (constant a a_in).0 ∙ follow (parent c a) placed.0 less.0 (omega (arith, classes.down a a_in)) placed.2 in
    let rests : val d ≡ other placed.1 =
    sym (constant d d_in).0 ∙ follow (parent c d) placed.1 less.1 (omega (arith, classes.down d d_in)) placed.3 in
    ap₂ (λ u v. trees (tree_then (as_tree u) (as_trees v))) firsts rests ∙ ap (value_of θ other) (sym placed.4)

all-follow :
    (layout : Layout) (c : Classes) (p : Placing) (θ : Substitution) (val other : ℕ → Value) (bound : ℕ)
    → IsLayout layout → AreClasses (length (cells_of layout)) c → IsPlacing (cells_of layout) c p
    → IsConstantOn (length (cells_of layout)) c val → IsValuation θ (cells_of layout) val → IsValuation θ p.cells.items other
    → Follow layout c p val other bound
all-follow layout c p θ val other zero is_layout classes placing constant valuation made i k less inside found = absurd (omega arith)
all-follow layout c p θ val other (suc bound) is_layout classes placing constant valuation made i k less inside found =
    let there = placing.placed i k inside found in
    let s : ℕ = schema c i in
    let s_in : s < length (cells_of layout) = classes.inside i inside in
    sym (constant i inside).1
    ∙ valuation s s_in
    ∙ value-follows layout c p θ val other s k (cell_at (cells_of layout) s) (cell_at p.cells.items k) classes constant s_in
    (is_layout.ordered s s_in) (placing.ordered k there.inside) there.as_schema
    (λ j m below. all-follow layout c p θ val other bound is_layout classes placing constant valuation made j m (omega arith))
    ∙ sym (made k there.inside)

after-joint :
    (layout : Layout) (first second : ℕ) (start c : Classes) (p : Placing) (ps : List Place) (θ : Substitution) (val : ℕ → Value) (w : ℕ) (o : Option ℕ)
    → Stands layout first second start c → IsSolved layout c p ps → IsValuation θ (cells_of layout) val → val first ≡ val second
    → cell_of w layout.places.items ≡ o → θ w ≡ instance θ (joint_by p.cells.items ps w)
after-joint layout first second start c p ps θ val w None h solved valuation same e =
    let absent : cell_of w ps ≡ None =
    ap (cell_of w) solved.places ∙ cell_of-relocated c p w layout.places.items ∙ ap (option_map (spot c p)) e in
    ap (instance θ) (sym (ap (λ o. bound p.cells.items o w) absent))
after-joint layout first second start c p ps θ val w (Some i) h solved valuation same e =
    let cells : List Cell = cells_of layout in
    let variable_at = h.is_layout.places w i e in
    let inside : i < length cells = variable_at.0 in
    let constant : IsConstantOn (length cells) c val = valuation-constant layout first second start c θ val h valuation same in
    let v : ℕ → Value = own_value p in
    let other : ℕ → Value = λ k. instance_value θ (v k) in
    let made : IsValuation θ p.cells.items other =
    valuation-instance θ p.cells.items v (value_at-valuation variable p.cells.items solved.placing.ordered) in
    let there = spot-placed layout first second start c p ps i h solved inside in
    let k : ℕ = there.0 in
    let up : parent c i < length cells = omega (arith, h.closed.follows.classes.down i inside) in
    let here : tree (θ w) ≡ instance_value θ (v k) =
    sym (valuation i inside ∙ ap (value_of θ val) variable_at.1)
    ∙ sym (constant i inside).0
    ∙ all-follow layout c p θ val other (suc k) h.is_layout h.closed.follows.classes solved.placing constant valuation made (parent c i) k (omega arith) up there.1 in
    tree-instance θ (θ w) (v k) here
    ∙ ap (λ j. instance θ (as_tree (v j))) (sym (spot-is c p i k there.1))
    ∙ ap (instance θ) (sym (joint-is layout c p ps w i solved e))

pub solved-meets :
    (layout : Layout) (first second : ℕ) (start c : Classes) (p : Placing) (ps : List Place)
    → Stands layout first second start c → IsSolved layout c p ps → Meets (cells_of layout) first second (joint_by p.cells.items ps)
solved-meets layout first second start c p ps h solved = record {
  val = λ i. own_value p (spot c p i);
  valuation = solved-valuation layout first second start c p ps h solved;
  same = ap (λ j. own_value p (unwrap_or (place p j) 0)) h.closed.same;
  general = λ θ other valuation meets w. after-joint layout first second start c p ps θ other w (cell_of w layout.places.items) h solved valuation meets refl;
}
