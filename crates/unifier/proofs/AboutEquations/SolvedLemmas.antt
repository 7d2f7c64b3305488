-- The cells of a unifier are in order; and all of it as the code has it.
use Rattle.std.proofs.Common.{◌≡◌, ℕ, ◌<◌, false, Option, None, Some, List, length, map, get_or, refl, ap, sym, ◌∙◌, subst, arith}
use Rattle.std.specs.Prelude.{option_map}
use Rattle.std.proofs.lemmas.List.{get_or-map, length-map}
use Rattle.unifier.specs.declared.cells.Cell.{Cell}
use Rattle.unifier.specs.declared.cells.Cell.TheVariants.{Variable, Application, NoTrees, TreeThen}
use Rattle.unifier.specs.declared.layout.Place.{Place}
use Rattle.unifier.specs.declared.layout.Layout.{Layout}
use Rattle.unifier.specs.declared.classes.Classes.{Classes}
use Rattle.unifier.specs.declared.placing.Placing.{Placing}
use Rattle.unifier.specs.Cells.{cell_at, is_list, IsAfterParts, HasKinds}
use Rattle.unifier.specs.Layout.{cell_of, AreRising, IsLayout}
use Rattle.unifier.specs.InOrder.{InOrder}
use Rattle.unifier.specs.Classes.{parent, schema, IsDiscrete, CannotFollow, AreClosed}
use Rattle.unifier.specs.Placing.{place, IsPlacedAs, IsOrdering}
use Rattle.unifier.specs.Solution.{joint_by, CannotMeet, Meets}
use Rattle.unifier.specs.Solving.{relocated, IsRelocated}
use Rattle.unifier.proofs.AboutClasses.CellLemmas.{refuted-cannot-meet}
use Rattle.unifier.proofs.AboutClasses.OccursLemmas.{Stands, cells_of, schema-kind, stuck-cannot-meet}
use Rattle.unifier.proofs.AboutEquations.SolveLemmas.{spot, spot-is, IsSolved, cell_of-relocated, bound-place, placed-kind, spot-placed, solved-meets}

-- ---- the bindings are in order

placed-kinds :
    (layout : Layout) (first second : ℕ) (start c : Classes) (p : Placing) (ps : List Place) (s : ℕ) (x q : Cell)
    → Stands layout first second start c → IsSolved layout c p ps → s < length (cells_of layout) → IsAfterParts s x
    → HasKinds (cells_of layout) x → IsPlacedAs c p x q → HasKinds p.cells.items q
placed-kinds layout first second start c p ps s (Variable w) q h solved inside after kinds placed = subst (HasKinds p.cells.items) (sym placed) tt
placed-kinds layout first second start c p ps s (Application f l) q h solved inside after kinds placed =
    let there = spot-placed layout first second start c p ps l h solved (omega (arith, after)) in
    let at : there.0 ≡ placed.0 = let e : Some there.0 ≡ Some placed.0 = sym there.1 ∙ placed.1 in cc in
    subst (HasKinds p.cells.items) (sym placed.2)
    (ap (λ k. is_list (cell_at p.cells.items k)) (sym at)
    ∙ placed-kind c p (cell_at (cells_of layout) (schema c (parent c l))) (cell_at p.cells.items there.0) there.3
    ∙ schema-kind layout first second start c l h (omega (arith, after)) ∙ kinds)
placed-kinds layout first second start c p ps s NoTrees q h solved inside after kinds placed = subst (HasKinds p.cells.items) (sym placed) tt
placed-kinds layout first second start c p ps s (TreeThen a d) q h solved inside after kinds placed =
    let one = spot-placed layout first second start c p ps a h solved (omega (arith, after.0)) in
    let other = spot-placed layout first second start c p ps d h solved (omega (arith, after.1)) in
    let one_at : one.0 ≡ placed.0 = let e : Some one.0 ≡ Some placed.0 = sym one.1 ∙ placed.2 in cc in
    let other_at : other.0 ≡ placed.1 = let e : Some other.0 ≡ Some placed.1 = sym other.1 ∙ placed.3 in cc in
    subst (HasKinds p.cells.items) (sym placed.4) (
      ap (λ k. is_list (cell_at p.cells.items k)) (sym one_at)
          ∙ placed-kind c p (cell_at (cells_of layout) (schema c (parent c a))) (cell_at p.cells.items one.0) one.3
          ∙ schema-kind layout first second start c a h (omega (arith, after.0)) ∙ kinds.0,
      ap (λ k. is_list (cell_at p.cells.items k)) (sym other_at)
          ∙ placed-kind c p (cell_at (cells_of layout) (schema c (parent c d))) (cell_at p.cells.items other.0) other.3
          ∙ schema-kind layout first second start c d h (omega (arith, after.1)) ∙ kinds.1,
    )

placed-variable : (c : Classes) (p : Placing) (x q : Cell) (w : ℕ) → IsPlacedAs c p x q → q ≡ Variable w → x ≡ Variable w
placed-variable c p (Variable v) q w placed e = sym placed ∙ e
placed-variable c p (Application f l) q w placed e = let wrong : Application f placed.0 ≡ Variable w = sym placed.2 ∙ e in cc
placed-variable c p NoTrees q w placed e = let wrong : NoTrees ≡ Variable w = sym placed ∙ e in cc
placed-variable c p (TreeThen a d) q w placed e = let wrong : TreeThen placed.0 placed.1 ≡ Variable w = sym placed.4 ∙ e in cc

solved-terms :
    (layout : Layout) (first second : ℕ) (start c : Classes) (p : Placing) (ps : List Place) (w k : ℕ) (o : Option ℕ)
    → Stands layout first second start c → IsSolved layout c p ps → cell_of w layout.places.items ≡ o → option_map (spot c p) o ≡ Some k
    → (k < length p.cells.items) × (is_list (cell_at p.cells.items k) ≡ false)
solved-terms layout first second start c p ps w k None h solved e found = cc
solved-terms layout first second start c p ps w k (Some i) h solved e found =
    let variable_at = h.is_layout.places w i e in
    let there = spot-placed layout first second start c p ps i h solved variable_at.0 in
    let at : there.0 ≡ k = let same : Some (spot c p i) ≡ Some k = found in sym (spot-is c p i there.0 there.1) ∙ cc in
    let P : ℕ → Type 0 = λ m. (m < length p.cells.items) × (is_list (cell_at p.cells.items m) ≡ false) in
    subst P at (
      there.2,
      placed-kind c p (cell_at (cells_of layout) (schema c (parent c i))) (cell_at p.cells.items there.0) there.3
          ∙ schema-kind layout first second start c i h variable_at.0 ∙ ap is_list variable_at.1,
    )

relocated-rising : (c : Classes) (p : Placing) (es : List Place) → AreRising es → AreRising (map (relocated c p) es)
relocated-rising c p es rising i j d less inside =
    let len : length (map (relocated c p) es) ≡ length es = length-map es (relocated c p) in
    let code_at : (k : ℕ) → k < length es → (get_or (map (relocated c p) es) k d).code ≡ (get_or es k d).code =
    λ k within. ap (λ (e : Place). e.code) (get_or-map (relocated c p) es k d d within) in
    let j_in : j < length es = omega arith in
    let i_in : i < length es = omega arith in
    omega (arith, code_at i i_in, code_at j j_in, rising i j d less j_in)

pub solved-in-order :
    (layout : Layout) (first second : ℕ) (start c : Classes) (p : Placing) (ps : List Place)
    → Stands layout first second start c → IsSolved layout c p ps → InOrder p.cells.items ps
solved-in-order layout first second start c p ps h solved =
    let cells : List Cell = cells_of layout in
    record {
      ordered = solved.placing.ordered;
      kinded = λ k inside.
          let from = solved.placing.origin k inside in
          let there = solved.placing.placed from.0 k from.1 from.2 in
          let s : ℕ = schema c from.0 in
          let s_in : s < length cells = h.closed.follows.classes.inside from.0 from.1 in
          placed-kinds layout first second start c p ps s (cell_at cells s) (cell_at p.cells.items k) h solved s_in
          (h.is_layout.ordered s s_in) (h.is_layout.kinded s s_in) there.as_schema;
      terms = λ w k found.
          solved-terms layout first second start c p ps w k (cell_of w layout.places.items) h solved refl
          (sym (ap (cell_of w) solved.places ∙ cell_of-relocated c p w layout.places.items) ∙ found);
      own = λ k w inside is.
          let from = solved.placing.origin k inside in
          let there = solved.placing.placed from.0 k from.1 from.2 in
          let s : ℕ = schema c from.0 in
          let s_in : s < length cells = h.closed.follows.classes.inside from.0 from.1 in
          let s_is : cell_at cells s ≡ Variable w = placed-variable c p (cell_at cells s) (cell_at p.cells.items k) w there.as_schema is in
          bound-place layout c p ps w s solved (h.is_layout.placed s w s_in s_is)
          ∙ ap Some (spot-is c p s k (ap (place p) (h.closed.settled.own from.0 from.1 ∙ there.smallest) ∙ from.2));
      findable = λ many. subst AreRising (sym solved.places) (relocated-rising c p layout.places.items h.is_layout.rising);
    }

-- ---- as the code has them: the cells are borrowed as a slice

pub record Given (layout : Layout) (first : ℕ) (second : ℕ) (xs : List Cell) (n : ℕ) (start : Classes) : Type 0 where
  pub is_layout : IsLayout layout
  pub kinds : is_list (cell_at layout.cells.items first) ≡ is_list (cell_at layout.cells.items second)
  pub first_inside : first < length layout.cells.items
  pub second_inside : second < length layout.cells.items
  pub slice : xs ≡ layout.cells.items
  pub count : n ≡ length xs
  pub discrete : IsDiscrete n start

given-discrete :
    (layout : Layout) (first second : ℕ) (xs : List Cell) (n : ℕ) (start : Classes)
    → Given layout first second xs n start → IsDiscrete (length layout.cells.items) start
given-discrete layout first second xs n start g = subst (λ m. IsDiscrete m start) (g.count ∙ ap length g.slice) g.discrete

pub given-refuted :
    (layout : Layout) (first second : ℕ) (xs : List Cell) (n : ℕ) (start : Classes)
    → Given layout first second xs n start → CannotFollow xs first second start → CannotMeet layout.cells.items first second
given-refuted layout first second xs n start g h =
    refuted-cannot-meet layout first second start g.is_layout (given-discrete layout first second xs n start g)
    (subst (λ cells. CannotFollow cells first second start) g.slice h)

given-stands :
    (layout : Layout) (first second : ℕ) (xs : List Cell) (n : ℕ) (start c : Classes)
    → Given layout first second xs n start → AreClosed xs first second start c → Stands layout first second start c
given-stands layout first second xs n start c g h = record {
  is_layout = g.is_layout;
  kinds = g.kinds;
  first_inside = g.first_inside;
  second_inside = g.second_inside;
  discrete = given-discrete layout first second xs n start g;
  closed = subst (λ cells. AreClosed cells first second start c) g.slice h;
}

pub given-stuck :
    (layout : Layout) (first second : ℕ) (xs : List Cell) (n : ℕ) (start c : Classes)
    → Given layout first second xs n start → AreClosed xs first second start c → IsOrdering xs c None
    → CannotMeet layout.cells.items first second
given-stuck layout first second xs n start c g h o =
    stuck-cannot-meet layout first second start c (given-stands layout first second xs n start c g h)
    (subst (λ cells. IsOrdering cells c None) g.slice o)

given-is-solved :
    (layout : Layout) (first second : ℕ) (xs : List Cell) (n : ℕ) (start c : Classes) (p : Placing) (made es : List Place)
    → Given layout first second xs n start → IsOrdering xs c (Some p) → es ≡ layout.places.items → IsRelocated c p es made
    → IsSolved layout c p made
given-is-solved layout first second xs n start c p made es g o places relocated =
    let ordering = subst (λ ds. IsOrdering ds c (Some p)) g.slice o in
    record {
      placing = ordering.0;
      all_placed = ordering.1;
      places = subst (λ ps. IsRelocated c p ps made) places relocated;
    }

pub given-solved :
    (layout : Layout) (first second : ℕ) (xs : List Cell) (n : ℕ) (start c : Classes) (p : Placing) (made es : List Place)
    → Given layout first second xs n start → AreClosed xs first second start c → IsOrdering xs c (Some p)
    → es ≡ layout.places.items → IsRelocated c p es made
    → Meets layout.cells.items first second (joint_by p.cells.items made)
given-solved layout first second xs n start c p made es g h o places relocated =
    solved-meets layout first second start c p made (given-stands layout first second xs n start c g h)
    (given-is-solved layout first second xs n start c p made es g o places relocated)

pub given-in-order :
    (layout : Layout) (first second : ℕ) (xs : List Cell) (n : ℕ) (start c : Classes) (p : Placing) (made es : List Place)
    → Given layout first second xs n start → AreClosed xs first second start c → IsOrdering xs c (Some p)
    → es ≡ layout.places.items → IsRelocated c p es made → InOrder p.cells.items made
given-in-order layout first second xs n start c p made es g h o places relocated =
    solved-in-order layout first second start c p made (given-stands layout first second xs n start c g h)
    (given-is-solved layout first second xs n start c p made es g o places relocated)
