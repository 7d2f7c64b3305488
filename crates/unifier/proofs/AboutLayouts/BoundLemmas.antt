-- Which variables `unify` binds: those of its terms alone.
use Rattle.std.proofs.Common.{◌≡◌, ℕ, ◌+◌, ◌*◌, ◌/◌, ◌%◌, ◌<◌, ◌≤◌, max, Bool, true, false, ◌||◌, ◌==◌, cond, Option, None, Some, List, [], ◌∷◌, map, refl, ap, sym, ◌∙◌, ⊎_elim, subst, arith, eq-eqb}
use Rattle.std.specs.Prelude.{MatchOption, nat_lt}
use Rattle.std.specs.List.{list_any, list_all}
use Rattle.std.proofs.lemmas.Bool.{and_from, and_parts, cases_Bool, cond-true, cond-false, or_left, or_right, true≢false}
use Rattle.std.proofs.lemmas.List.Folds.{list_all-append, list_all-map}
use Rattle.fol_base.specs.Tree.{Tree, variable, application, Trees, no_trees, tree_then, tree_variables, trees_variables, VariablesBelow, AllVariablesBelow}
use Rattle.fol_base.specs.declared.clause.Side.TheVariants.{Left, Right}
use Rattle.unifier.specs.declared.layout.Place.{Place}
use Rattle.unifier.specs.declared.classes.Classes.{Classes}
use Rattle.unifier.specs.declared.placing.Placing.{Placing}
use Rattle.unifier.specs.Matching.{variables_of}
use Rattle.unifier.specs.SolvedForm.{SolvedForm, code_of, joint}
use Rattle.unifier.specs.Layout.{all_pass}
use Rattle.unifier.specs.declared.solution.Solution.{Solution}
use Rattle.unifier.specs.Solution.{solved_form}
use Rattle.unifier.specs.Bindings.{occurs, IsUnified, LeavesOthers, IsFound}
use Rattle.unifier.specs.Renaming.{is_within, fits, CountsVariables, FitLeavesOthers, FitLeavesOthersApart, FitsAbove}
use Rattle.unifier.specs.Solving.{relocated, IsRelocated}
use Rattle.plain_types.proofs.Parity.{even-half, odd-half}
use Rattle.unifier.proofs.AboutLayouts.PlaceLemmas.{ltb-is}
use Rattle.unifier.proofs.AboutEquations.SolutionLemmas.{unbound}
use Rattle.unifier.proofs.AboutLayouts.RankLemmas.{code-within, within-left, within-right}
use Rattle.list_lemmas.proofs.Numbers.{not-less, less-says}

-- ---- places and tests

-- the places that are found have the variables of those laid out
pub relocated-passes :
    (c : Classes) (p : Placing) (es old made : List Place)
    → es ≡ old → IsRelocated c p es made → (test : ℕ → Bool) → all_pass test made ≡ all_pass test old
relocated-passes c p es old made same is test =
    ap (all_pass test) is ∙ list_all-map (λ (q : Place). test q.code) (relocated c p) es ∙ ap (all_pass test) same

-- what was found, as the code has it
pub found-some :
    (apart : Bool) (s t : Tree) (o : Option Solution) (solution : Solution) (b : SolvedForm)
    → MatchOption o (IsUnified apart s t None) (λ found. IsFound apart s t (solved_form found))
    → o ≡ Some solution → b ≡ solved_form solution → IsFound apart s t b
found-some apart s t o solution b h is same =
    let P : Option Solution → Type 0 = λ found. MatchOption found (IsUnified apart s t None) (λ x. IsFound apart s t (solved_form x)) in
    let here : IsFound apart s t (solved_form solution) = subst P is h in
    subst (IsFound apart s t) (sym same) here

-- what all variables of both terms pass, all that are found pass
passes :
    (apart : Bool) (s t : Tree) (b : SolvedForm) (test : ℕ → Bool) → IsFound apart s t b
    → list_all (λ v. test (code_of apart Left v)) (tree_variables s) ≡ true
    → list_all (λ v. test (code_of apart Right v)) (tree_variables t) ≡ true → list_all test (variables_of b.pairs) ≡ true
passes apart s t b test h left right =
    h.variables test
    ∙ list_all-append test (map (code_of apart Left) (tree_variables s)) (map (code_of apart Right) (tree_variables t))
    ∙ and_from (list_all test (map (code_of apart Left) (tree_variables s))) (list_all test (map (code_of apart Right) (tree_variables t)))
    (list_all-map test (code_of apart Left) (tree_variables s) ∙ left)
    (list_all-map test (code_of apart Right) (tree_variables t) ∙ right)

-- ---- counts above the variables

mutual
  pub below-pass :
      (test : ℕ → Bool) (n : ℕ) (t : Tree)
      → ((v : ℕ) → v < n → test v ≡ true) → VariablesBelow n t → list_all test (tree_variables t) ≡ true
  below-pass test n (variable v) h below = and_from (test v) true (h v below) refl
  below-pass test n (application f ts) h below = all-below-pass test n ts h below

  all-below-pass :
      (test : ℕ → Bool) (n : ℕ) (ts : Trees)
      → ((v : ℕ) → v < n → test v ≡ true) → AllVariablesBelow n ts → list_all test (trees_variables ts) ≡ true
  all-below-pass test n no_trees h below = refl
  all-below-pass test n (tree_then t ts) h below =
      list_all-append test (tree_variables t) (trees_variables ts)
      ∙ and_from (list_all test (tree_variables t)) (list_all test (trees_variables ts)) (below-pass test n t h below.0)
      (all-below-pass test n ts h below.1)

pub found-fits :
    (apart : Bool) (s t : Tree) (b : SolvedForm) → IsFound apart s t b
    → (l r : ℕ) → VariablesBelow l s → VariablesBelow r t → fits b l r ≡ true
found-fits apart s t b h l r left right =
    ap (λ a. list_all (is_within a l r) (variables_of b.pairs)) h.sides
    ∙ passes apart s t b (is_within apart l r) h
    (below-pass (λ v. is_within apart l r (code_of apart Left v)) l s (code-within apart l r Left) left)
    (below-pass (λ v. is_within apart l r (code_of apart Right v)) r t (code-within apart l r Right) right)

pub found-fits-together :
    (apart : Bool) (s t : Tree) (b : SolvedForm) → IsFound apart s t b
    → apart ≡ false → (n : ℕ) → VariablesBelow n s → VariablesBelow n t → (l r : ℕ) → n ≤ max l r → fits b l r ≡ true
found-fits-together true s t b h is n left right l r most = absurd (true≢false is)
found-fits-together false s t b h is n left right l r most =
    let within : (v : ℕ) → v < n → is_within false l r v ≡ true = λ v less. ltb-is v (max l r) (omega (arith, less, most)) in
    ap (λ a. list_all (is_within a l r) (variables_of b.pairs)) h.sides
    ∙ passes false s t b (is_within false l r) h
    (below-pass (λ v. is_within false l r v) n s within left)
    (below-pass (λ v. is_within false l r v) n t within right)

-- ---- the counts that fit

pub found-counts : (apart : Bool) (s t : Tree) (b : SolvedForm) → IsFound apart s t b → CountsVariables apart s t b
found-counts apart s t b h = record {
  sides = h.sides;
  counts = λ l r. ap (λ a. list_all (is_within a l r) (variables_of b.pairs)) h.sides ∙ h.variables (is_within apart l r);
}

-- ---- variables without a pair

itself : (b : SolvedForm) (test : ℕ → Bool) (w : ℕ) → list_all test (variables_of b.pairs) ≡ true → test w ≡ false → joint b w ≡ variable w
itself b test w all fails = unbound test w b.pairs all fails

counted :
    (b : SolvedForm) (apart : Bool) (l r : ℕ)
    → b.apart ≡ apart → fits b l r ≡ true → list_all (is_within apart l r) (variables_of b.pairs) ≡ true
counted b apart l r is h = sym (ap (λ a. list_all (is_within a l r) (variables_of b.pairs)) is) ∙ h

-- those that aren't below their counts
pub fit-leaves-others-apart : FitLeavesOthersApart
fit-leaves-others-apart b l r is h = (
  (λ v past.
      ap (λ a. joint b (code_of a Left v)) is
      ∙ itself b (is_within true l r) (2 * v) (counted b true l r is h) (within-left l r v ∙ not-less v l past)),
  (λ v past.
      ap (λ a. joint b (code_of a Right v)) is
      ∙ itself b (is_within true l r) (2 * v + 1) (counted b true l r is h) (within-right l r v ∙ not-less v r past)),
)

pub fit-leaves-others : FitLeavesOthers
fit-leaves-others b l r is h v past =
    let free : joint b v ≡ variable v = itself b (is_within false l r) v (counted b false l r is h) (not-less v (max l r) past) in (
      ap (λ a. joint b (code_of a Left v)) is ∙ free,
      ap (λ a. joint b (code_of a Right v)) is ∙ free,
    )

-- counts above counts that fit
all-weaker : (p q : ℕ → Bool) → ((w : ℕ) → p w ≡ true → q w ≡ true) → (ws : List ℕ) → list_all p ws ≡ true → list_all q ws ≡ true
all-weaker p q h [] all = refl
all-weaker p q h (w ∷ ws) all =
    let both = and_parts (p w) (list_all p ws) all in and_from (q w) (list_all q ws) (h w both.0) (all-weaker p q h ws both.1)

below-above : (w l m : ℕ) → l ≤ m → nat_lt w l ≡ true → nat_lt w m ≡ true
below-above w l m more h = ltb-is w m (omega (arith, less-says w l h, more))

within-above : (apart : Bool) (l r m n w : ℕ) → l ≤ m → r ≤ n → is_within apart l r w ≡ true → is_within apart m n w ≡ true
within-above false l r m n w left right h = below-above w (max l r) (max m n) (omega (arith, left, right)) h
within-above true l r m n w left right h =
    ⊎_elim
    (λ even.
    cond-true (w % 2 == 0) (nat_lt (w / 2) m) (nat_lt (w / 2) n) even
    ∙ below-above (w / 2) l m left (sym (cond-true (w % 2 == 0) (nat_lt (w / 2) l) (nat_lt (w / 2) r) even) ∙ h))
    (λ odd.
    cond-false (w % 2 == 0) (nat_lt (w / 2) m) (nat_lt (w / 2) n) odd
    ∙ below-above (w / 2) r n right (sym (cond-false (w % 2 == 0) (nat_lt (w / 2) l) (nat_lt (w / 2) r) odd) ∙ h))
    (cases_Bool (w % 2 == 0))

pub fits-above : FitsAbove
fits-above b l r m n left right h =
    all-weaker (is_within b.apart l r) (is_within b.apart m n) (λ w k. within-above b.apart l r m n w left right k) (variables_of b.pairs) h

-- ---- variables that stand in neither term

members-pass : (test : ℕ → Bool) (vs : List ℕ) → ((v : ℕ) → list_any (λ w. w == v) vs ≡ true → test v ≡ true) → list_all test vs ≡ true
members-pass test [] h = refl
members-pass test (u ∷ us) h =
    and_from (test u) (list_all test us) (h u (or_left (u == u) (list_any (λ w. w == u) us) (eq-eqb u u refl)))
    (members-pass test us (λ v there. h v (or_right (u == v) (list_any (λ w. w == v) us) there)))

stands : Bool → Tree → Tree → ℕ → Bool
stands true s t w = cond (w % 2 == 0) (occurs (w / 2) s) (occurs (w / 2) t)
stands false s t w = occurs w s || occurs w t

stands-left : (s t : Tree) (v : ℕ) → stands true s t (2 * v) ≡ occurs v s
unfolding stands
stands-left s t v = even-half (λ u. occurs u s) (λ u. occurs u t) v

stands-right : (s t : Tree) (v : ℕ) → stands true s t (2 * v + 1) ≡ occurs v t
unfolding stands
stands-right s t v = odd-half (λ u. occurs u s) (λ u. occurs u t) v

of-left : (apart : Bool) (s t : Tree) (v : ℕ) → occurs v s ≡ true → stands apart s t (code_of apart Left v) ≡ true
unfolding stands
of-left true s t v h = stands-left s t v ∙ h
of-left false s t v h = or_left (occurs v s) (occurs v t) h

of-right : (apart : Bool) (s t : Tree) (v : ℕ) → occurs v t ≡ true → stands apart s t (code_of apart Right v) ≡ true
unfolding stands
of-right true s t v h = stands-right s t v ∙ h
of-right false s t v h = or_right (occurs v s) (occurs v t) h

neither : (s t : Tree) (v : ℕ) → occurs v s ≡ false → occurs v t ≡ false → stands false s t v ≡ false
unfolding stands
neither s t v left right = ap (λ b. b || occurs v t) left ∙ right

leaves :
    (apart : Bool) (s t : Tree) (b : SolvedForm)
    → b.apart ≡ apart → list_all (stands apart s t) (variables_of b.pairs) ≡ true → LeavesOthers apart s t b
leaves true s t b is all = (
  (λ v absent. ap (λ a. joint b (code_of a Left v)) is ∙ itself b (stands true s t) (2 * v) all (stands-left s t v ∙ absent)),
  (λ v absent. ap (λ a. joint b (code_of a Right v)) is ∙ itself b (stands true s t) (2 * v + 1) all (stands-right s t v ∙ absent)),
)
leaves false s t b is all = λ v left right. ap (λ a. joint b (code_of a Left v)) is ∙ itself b (stands false s t) v all (neither s t v left right)

pub found-leaves : (apart : Bool) (s t : Tree) (b : SolvedForm) → IsFound apart s t b → LeavesOthers apart s t b
found-leaves apart s t b h =
    leaves apart s t b h.sides
    (passes apart s t b (stands apart s t) h
    (members-pass (λ v. stands apart s t (code_of apart Left v)) (tree_variables s) (of-left apart s t))
    (members-pass (λ v. stands apart s t (code_of apart Right v)) (tree_variables t) (of-right apart s t)))
