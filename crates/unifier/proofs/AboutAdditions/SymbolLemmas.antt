-- A most general unifier adds no symbols: one that stood in neither term could be taken out of it.
use Rattle.std.proofs.Common.{◌≡◌, ℕ, ◌+◌, Bool, true, false, ◌&&◌, ◌||◌, ◌==◌, cond, refl, ap, ap₂, sym, ◌∙◌, ⊎_elim}
use Rattle.std.proofs.lemmas.Bool.{or_from, or_parts, or_cases, cond-true, cond-false, cases_Bool, true_from_ne_false, true≢false}
use Rattle.fol_base.specs.Tree.{Tree, variable, application, Trees, no_trees, tree_then, trees_count}
use Rattle.fol_base.specs.Instance.{Substitution, instance, instances}
use Rattle.fol_base.specs.Unifier.{IsUnifierApart}
use Rattle.fol_base.proofs.AboutInstances.InstanceLemmas.{trees_count-instances}
use Rattle.unifier.specs.Additions.{stands, stands_in_any, UnifiersAddNoSymbols, UnifiersApartAddNoSymbols}

-- the head is the symbol, with so many arguments
abbrev is_symbol : ℕ → ℕ → ℕ → ℕ → Bool
is_symbol f n g m = (f == g) && (n == m)

-- each subterm with the symbol at its head becomes a variable
mutual
  pub cleaned : ℕ → ℕ → Tree → Tree
  cleaned f n (variable v) = variable v
  cleaned f n (application g ts) = cond (is_symbol f n g (trees_count ts)) (variable 0) (application g (all_cleaned f n ts))

  pub all_cleaned : ℕ → ℕ → Trees → Trees
  all_cleaned f n no_trees = no_trees
  all_cleaned f n (tree_then t ts) = tree_then (cleaned f n t) (all_cleaned f n ts)

all_cleaned-count : (f n : ℕ) (ts : Trees) → trees_count (all_cleaned f n ts) ≡ trees_count ts
unfolding all_cleaned
all_cleaned-count f n no_trees = refl
all_cleaned-count f n (tree_then t ts) = ap (λ k. 1 + k) (all_cleaned-count f n ts)

mutual
  unfolding cleaned all_cleaned

  cleaned-lacks : (f n : ℕ) (t : Tree) → stands f n (cleaned f n t) ≡ false
  cleaned-lacks f n (variable v) = refl
  cleaned-lacks f n (application g ts) =
      ⊎_elim
      (λ yes_. ap (stands f n) (cond-true (is_symbol f n g (trees_count ts)) (variable 0) (application g (all_cleaned f n ts)) yes_))
      (λ no_.
      ap (stands f n) (cond-false (is_symbol f n g (trees_count ts)) (variable 0) (application g (all_cleaned f n ts)) no_)
      ∙ or_from (is_symbol f n g (trees_count (all_cleaned f n ts))) (stands_in_any f n (all_cleaned f n ts))
      (ap (is_symbol f n g) (all_cleaned-count f n ts) ∙ no_) (all_cleaned-lack f n ts))
      (cases_Bool (is_symbol f n g (trees_count ts)))

  all_cleaned-lack : (f n : ℕ) (ts : Trees) → stands_in_any f n (all_cleaned f n ts) ≡ false
  all_cleaned-lack f n no_trees = refl
  all_cleaned-lack f n (tree_then t ts) =
      or_from (stands f n (cleaned f n t)) (stands_in_any f n (all_cleaned f n ts)) (cleaned-lacks f n t) (all_cleaned-lack f n ts)

-- what is put into a tree without the symbol is cleaned with the instance
mutual
  unfolding cleaned all_cleaned

  cleaned-instance :
      (f n : ℕ) (σ : Substitution) (t : Tree)
      → stands f n t ≡ false → instance (λ v. cleaned f n (σ v)) t ≡ cleaned f n (instance σ t)
  cleaned-instance f n σ (variable v) h = refl
  cleaned-instance f n σ (application g ts) h =
      let both = or_parts (is_symbol f n g (trees_count ts)) (stands_in_any f n ts) h in
      ap (application g) (all_cleaned-instance f n σ ts both.1)
      ∙ sym (cond-false (is_symbol f n g (trees_count (instances σ ts))) (variable 0) (application g (all_cleaned f n (instances σ ts)))
      (ap (is_symbol f n g) (trees_count-instances σ ts) ∙ both.0))

  all_cleaned-instance :
      (f n : ℕ) (σ : Substitution) (ts : Trees)
      → stands_in_any f n ts ≡ false → instances (λ v. cleaned f n (σ v)) ts ≡ all_cleaned f n (instances σ ts)
  all_cleaned-instance f n σ no_trees h = refl
  all_cleaned-instance f n σ (tree_then t ts) h =
      let both = or_parts (stands f n t) (stands_in_any f n ts) h in
      ap₂ tree_then (cleaned-instance f n σ t both.0) (all_cleaned-instance f n σ ts both.1)

-- a tree has no symbol that an instance of it lacks
mutual
  before-lacks : (f n : ℕ) (σ : Substitution) (t : Tree) → stands f n (instance σ t) ≡ false → stands f n t ≡ false
  before-lacks f n σ (variable v) h = refl
  before-lacks f n σ (application g ts) h =
      let both = or_parts (is_symbol f n g (trees_count (instances σ ts))) (stands_in_any f n (instances σ ts)) h in
      or_from (is_symbol f n g (trees_count ts)) (stands_in_any f n ts)
      (ap (is_symbol f n g) (sym (trees_count-instances σ ts)) ∙ both.0) (all_before-lack f n σ ts both.1)

  all_before-lack : (f n : ℕ) (σ : Substitution) (ts : Trees) → stands_in_any f n (instances σ ts) ≡ false → stands_in_any f n ts ≡ false
  all_before-lack f n σ no_trees h = refl
  all_before-lack f n σ (tree_then t ts) h =
      let both = or_parts (stands f n (instance σ t)) (stands_in_any f n (instances σ ts)) h in
      or_from (stands f n t) (stands_in_any f n ts) (before-lacks f n σ t both.0) (all_before-lack f n σ ts both.1)

-- Where the cleaned substitutions, if they unify, give a tree's cleaned form as an instance of it, the tree has the symbols of the two
-- terms alone. The tree is what a most general unifier puts in for some variable, of either side.
pub adds-no_symbol :
    (s t : Tree) (σ τ : Substitution) (put : Tree) (f n : ℕ) → IsUnifierApart s t σ τ
    → (IsUnifierApart s t (λ v. cleaned f n (σ v)) (λ v. cleaned f n (τ v)) → (another : Substitution) × (cleaned f n put ≡ instance another put))
    → stands f n put ≡ true → (stands f n s || stands f n t) ≡ true
adds-no_symbol s t σ τ put f n unifies general there =
    true_from_ne_false (stands f n s || stands f n t) (λ none.
    let both = or_parts (stands f n s) (stands f n t) none in
    let by = general (cleaned-instance f n σ s both.0 ∙ ap (cleaned f n) unifies ∙ sym (cleaned-instance f n τ t both.1)) in
    true≢false (sym there ∙ before-lacks f n by.0 put (ap (stands f n) (sym by.1) ∙ cleaned-lacks f n put)))

pub unifiers_add_no_symbols : UnifiersAddNoSymbols
unifiers_add_no_symbols s t σ h v f n there =
    adds-no_symbol s t σ σ (σ v) f n h.unifies
    (λ cleaned_unifies. let by = h.is_general (λ w. cleaned f n (σ w)) cleaned_unifies in (by.0, by.1 v)) there

pub unifiers_apart_add_no_symbols : UnifiersApartAddNoSymbols
unifiers_apart_add_no_symbols s t σ τ h v f n there =
    ⊎_elim
    (λ on_left.
    adds-no_symbol s t σ τ (σ v) f n h.unifies
    (λ cleaned_unify. let by = h.is_general (λ w. cleaned f n (σ w)) (λ w. cleaned f n (τ w)) cleaned_unify in (by.0, by.1 v)) on_left)
    (λ on_right.
    adds-no_symbol s t σ τ (τ v) f n h.unifies
    (λ cleaned_unify. let by = h.is_general (λ w. cleaned f n (σ w)) (λ w. cleaned f n (τ w)) cleaned_unify in (by.0, by.2 v)) on_right)
    (or_cases (stands f n (σ v)) (stands f n (τ v)) there)
