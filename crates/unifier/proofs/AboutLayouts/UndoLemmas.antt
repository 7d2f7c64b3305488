-- The renaming can be undone, and its names have no gaps.
use Rattle.std.proofs.Common.{◌≡◌, ◌⊎◌, inl, inr, ℕ, zero, suc, ◌<◌, ◌≤◌, true, Option, None, Some, List, length, slice_index, refl, ap, ap₂, sym, ◌∙◌, subst, arith}
use Rattle.std.proofs.lemmas.Bool.{cases_lt}
use Rattle.fol_base.specs.Tree.{Tree, variable, application, tree_then, tree_eq, VariablesBelow, AllVariablesBelow}
use Rattle.fol_base.proofs.AboutTerms.TreeLemmas.{tree_eq-refl, tree_eq-true, and_left, and_right}
use Rattle.unifier.specs.declared.cells.Cell.{Cell}
use Rattle.unifier.specs.declared.cells.Cell.TheVariants.{Variable, Application, NoTrees, TreeThen}
use Rattle.fol_base.specs.declared.clause.Side.{Side}
use Rattle.fol_base.specs.declared.clause.Side.TheVariants.{Left, Right}
use Rattle.unifier.specs.declared.solution.Solution.{Solution}
use Rattle.unifier.specs.Cells.{Value, as_tree, as_trees, cell_at, value_of, IsAfterParts}
use Rattle.unifier.specs.InOrder.{InOrder}
use Rattle.unifier.specs.SolvedForm.{code_of, joint, substitution_of}
use Rattle.unifier.specs.Layout.{cell_of, all_pass}
use Rattle.unifier.specs.Solution.{bound, solved_form}
use Rattle.unifier.specs.Renaming.{renamed, renamed_trees, side_terms, AreRenamed, code_count, is_within, is_shared, rank, AreNames}
use Rattle.unifier.proofs.AboutEquations.SolutionLemmas.{joint-is, joint-found}
use Rattle.unifier.proofs.AboutLayouts.RankLemmas.{side_count, rank-below, rank-same, rank-of, code-within, code-inside, within-side, bound-within}
use Rattle.unifier.proofs.AboutLayouts.RenameLemmas.{own, itself-free, own-is}
use Rattle.list_lemmas.proofs.Bools.{both-true}

-- ---- the renaming can be undone

pub record Naming (b : Solution) (l : ℕ) (r : ℕ) (names : List ℕ) : Type 0 where
  pub order : InOrder b.cells.items b.places.items
  pub counts : all_pass (is_within b.apart l r) b.places.items ≡ true
  pub are : AreNames (solved_form b) l r names

abbrev count_of : Solution → ℕ → ℕ → ℕ
count_of b l r = rank (is_shared (solved_form b) l r) (code_count b.apart l r)

back_by : (b : Solution) (l r k : ℕ) → (k < count_of b l r) ⊎ (count_of b l r ≤ k) → ℕ
back_by b l r k (inl less) = (rank-of (is_shared (solved_form b) l r) (code_count b.apart l r) k less).0
back_by b l r k (inr ge) = 0

back_of : Solution → ℕ → ℕ → ℕ → ℕ
back_of b l r k = back_by b l r k (cases_lt k (count_of b l r))

back_by-is :
    (b : Solution) (l r k m : ℕ) (o : (k < count_of b l r) ⊎ (count_of b l r ≤ k))
    → m < code_count b.apart l r → is_shared (solved_form b) l r m ≡ true → rank (is_shared (solved_form b) l r) m ≡ k → back_by b l r k o ≡ m
unfolding back_by
back_by-is b l r k m (inl less) inside shared e =
    let there = rank-of (is_shared (solved_form b) l r) (code_count b.apart l r) k less in
    rank-same (is_shared (solved_form b) l r) there.0 m there.2 shared (there.3 ∙ sym e)
back_by-is b l r k m (inr ge) inside shared e =
    absurd (omega (arith, rank-below (is_shared (solved_form b) l r) m (code_count b.apart l r) inside shared))

-- a shared variable's name is below the count, and leads back
shared-name :
    (b : Solution) (l r : ℕ) (names : List ℕ) (w : ℕ)
    → Naming b l r names → w < code_count b.apart l r → is_shared (solved_form b) l r w ≡ true
    → (back_of b l r (slice_index names w) ≡ w) × (slice_index names w < count_of b l r)
unfolding back_of
shared-name b l r names w h inside shared =
    let e : slice_index names w ≡ rank (is_shared (solved_form b) l r) w = h.are.each w (omega (arith, h.are.many)) in (
      back_by-is b l r (slice_index names w) w (cases_lt (slice_index names w) (count_of b l r)) inside shared (sym e),
      omega (arith, e, rank-below (is_shared (solved_form b) l r) w (code_count b.apart l r) inside shared),
    )

cell-shared :
    (b : Solution) (l r : ℕ) (names : List ℕ) (k w : ℕ)
    → Naming b l r names → k < length b.cells.items → Variable w ≡ cell_at b.cells.items k
    → (is_shared (solved_form b) l r w ≡ true) × (w < code_count b.apart l r)
cell-shared b l r names k w h inside is =
    let found : cell_of w b.places.items ≡ Some k = h.order.own k w inside (sym is) in
    let within = bound-within b l r w k h.counts found in
    let itself : joint (solved_form b) w ≡ variable w =
    joint-found b w k found ∙ ap as_tree (own-is b.cells.items k (Variable w) h.order.ordered inside is) in (
      both-true (is_within b.apart l r w) (tree_eq (joint (solved_form b) w) (variable w)) within.0 (ap (λ t. tree_eq t (variable w)) itself ∙ tree_eq-refl (variable w)),
      within.1,
    )

-- what is renamed leads back, and has its variables below the count
abbrev Undone : Solution → ℕ → ℕ → List ℕ → Value → Type 0
Undone b l r names v =
    (renamed (back_of b l r) (renamed (slice_index names) (as_tree v)) ≡ as_tree v)
    × (renamed_trees (back_of b l r) (renamed_trees (slice_index names) (as_trees v)) ≡ as_trees v)
    × VariablesBelow (count_of b l r) (renamed (slice_index names) (as_tree v))
    × AllVariablesBelow (count_of b l r) (renamed_trees (slice_index names) (as_trees v))

undone-by :
    (b : Solution) (l r : ℕ) (names : List ℕ) (k : ℕ) (q : Cell)
    → Naming b l r names → k < length b.cells.items → q ≡ cell_at b.cells.items k → IsAfterParts k q
    → ((j : ℕ) → j < k → Undone b l r names (own b.cells.items j)) → Undone b l r names (value_of variable (own b.cells.items) q)
undone-by b l r names k (Variable w) h inside is after parts =
    let shared = cell-shared b l r names k w h inside is in
    let name = shared-name b l r names w h shared.1 shared.0 in
    (ap variable name.0, refl, name.1, tt)
undone-by b l r names k (Application f m) h inside is after parts =
    let list = parts m after in
    (ap (application f) list.1, refl, list.3, tt)
undone-by b l r names k NoTrees h inside is after parts = (refl, refl, tt, tt)
undone-by b l r names k (TreeThen a d) h inside is after parts =
    let first = parts a after.0 in
    let rest = parts d after.1 in
    (refl, ap₂ tree_then first.0 rest.1, tt, (first.2, rest.3))

undone :
    (b : Solution) (l r : ℕ) (names : List ℕ) (limit k : ℕ)
    → Naming b l r names → k < limit → k < length b.cells.items → Undone b l r names (own b.cells.items k)
undone b l r names zero k h less inside = absurd (omega arith)
undone b l r names (suc limit) k h less inside =
    let q : Cell = cell_at b.cells.items k in
    let P : Value → Type 0 = λ v. Undone b l r names v in
    subst P (sym (own-is b.cells.items k q h.order.ordered inside refl))
    (undone-by b l r names k q h inside refl (h.order.ordered k inside)
    (λ j before. undone b l r names limit j h (omega arith) (omega arith)))

undone-joint :
    (b : Solution) (l r : ℕ) (names : List ℕ) (w : ℕ) (o : Option ℕ)
    → Naming b l r names → cell_of w b.places.items ≡ o → is_within b.apart l r w ≡ true → w < code_count b.apart l r
    → (renamed (back_of b l r) (renamed (slice_index names) (bound b.cells.items o w)) ≡ bound b.cells.items o w)
    × VariablesBelow (count_of b l r) (renamed (slice_index names) (bound b.cells.items o w))
undone-joint b l r names w None h e within inside =
    let shared : is_shared (solved_form b) l r w ≡ true =
    both-true (is_within b.apart l r w) (tree_eq (joint (solved_form b) w) (variable w)) within (sym (itself-free b w e)) in
    let name = shared-name b l r names w h inside shared in
    (ap variable name.0, name.1)
undone-joint b l r names w (Some k) h e within inside =
    let all = undone b l r names (suc k) k h (omega arith) (h.order.terms w k e).0 in
    (all.0, all.2)

undone-side :
    (b : Solution) (l r : ℕ) (names : List ℕ) (side : Side) (v : ℕ)
    → Naming b l r names → v < side_count l r side
    → (renamed (back_of b l r) (renamed (slice_index names) (substitution_of (solved_form b) side v)) ≡ substitution_of (solved_form b) side v)
    × VariablesBelow (count_of b l r) (renamed (slice_index names) (substitution_of (solved_form b) side v))
undone-side b l r names side v h less =
    let w : ℕ = code_of b.apart side v in
    let P : Tree → Type 0 =
    λ t. (renamed (back_of b l r) (renamed (slice_index names) t) ≡ t) × VariablesBelow (count_of b l r) (renamed (slice_index names) t) in
    subst P (sym (joint-is b w))
    (undone-joint b l r names w (cell_of w b.places.items) h refl (code-within b.apart l r side v less) (code-inside b.apart l r side v less))

no-gaps :
    (b : Solution) (l r : ℕ) (names : List ℕ) (k : ℕ)
    → Naming b l r names → k < count_of b l r
    → (side : Side) × (v : ℕ) × (v < side_count l r side) × (renamed (slice_index names) (substitution_of (solved_form b) side v) ≡ variable k)
no-gaps b l r names k h less =
    let there = rank-of (is_shared (solved_form b) l r) (code_count b.apart l r) k less in
    let m : ℕ = there.0 in
    let within : is_within b.apart l r m ≡ true = and_left (is_within b.apart l r m) (tree_eq (joint (solved_form b) m) (variable m)) there.2 in
    let itself : joint (solved_form b) m ≡ variable m = tree_eq-true (joint (solved_form b) m) (variable m) (and_right (is_within b.apart l r m) (tree_eq (joint (solved_form b) m) (variable m)) there.2) in
    let at = within-side b.apart l r m within in
    let name : slice_index names m ≡ k = h.are.each m (omega (arith, h.are.many, there.1)) ∙ there.3 in (
      at.0,
      at.1,
      at.2,
      ap (λ u. renamed (slice_index names) (joint (solved_form b) u)) at.3 ∙ ap (renamed (slice_index names)) itself ∙ ap variable name,
    )

by-side :
    (b : Solution) (l r : ℕ) (names : ℕ → ℕ) (k : ℕ)
    → (side : Side) → (v : ℕ) → v < side_count l r side → renamed names (substitution_of (solved_form b) side v) ≡ variable k
    → ((v : ℕ) × (v < l) × (renamed names (substitution_of (solved_form b) Left v) ≡ variable k))
    ⊎ ((v : ℕ) × (v < r) × (renamed names (substitution_of (solved_form b) Right v) ≡ variable k))
by-side b l r names k Left v less e = inl (v, less, e)
by-side b l r names k Right v less e = inr (v, less, e)

pub are-renamed :
    (b : Solution) (l r : ℕ) (names : List ℕ) (left right : List Tree)
    → InOrder b.cells.items b.places.items → all_pass (is_within b.apart l r) b.places.items ≡ true → AreNames (solved_form b) l r names
    → left ≡ side_terms (solved_form b) (slice_index names) Left l → right ≡ side_terms (solved_form b) (slice_index names) Right r → AreRenamed (solved_form b) l r left right
are-renamed b l r names left right order h are left_is right_is =
    let h : Naming b l r names = record { order = order; counts = h; are = are } in
    record {
      named = record {
        names = slice_index names;
        back = back_of b l r;
        left_terms = left_is;
        right_terms = right_is;
        left_back = λ v less. (undone-side b l r names Left v h less).0;
        right_back = λ v less. (undone-side b l r names Right v h less).0;
      };
      count = count_of b l r;
      left_below = λ v less. (undone-side b l r names Left v h less).1;
      right_below = λ v less. (undone-side b l r names Right v h less).1;
      no_gaps = λ k less. let at = no-gaps b l r names k h less in by-side b l r (slice_index names) k at.0 at.1 at.2 at.3;
    }
