-- What the terms of a most general unifier of two trees of different variables are like: no larger than what is unified, and of its
-- symbols alone.
use Rattle.std.proofs.Common.{◌≡◌, ℕ, ◌<◌, ◌≤◌, true, List, length, ap, sym, ◌∙◌, ⊎_elim, arith}
use Rattle.fol_base.specs.Tree.{Tree, tree_size}
use Rattle.fol_base.specs.Instance.{Substitution, instance, substitution}
use Rattle.kernel_steps.specs.Symbols.{symbols_pass}
use Rattle.unifier.proofs.AboutAdditions.SymbolLemmas.{cleaned, adds-no_symbol}
use Rattle.eq_rules.proofs.AboutConclusions.BindingLemmas.{SymbolTest, changed, changed_there, smaller_or_same, variable_size, added-passes}
use Rattle.superpose.proofs.AboutSteps.ApartLemmas.{IsGeneralApart}

module _ (s t : Tree) (left right : List Tree) (general : IsGeneralApart s t left right) where
  abbrev σ : Substitution
  σ = substitution left

  abbrev τ : Substitution
  τ = substitution right

  -- ---- sizes

  pub left_terms_small :
      (most : ℕ) → tree_size (instance σ s) ≤ most → 1 ≤ most → (v : ℕ) → v < length left → tree_size (substitution left v) ≤ most
  left_terms_small most small some v within =
      ⊎_elim
      (λ less. omega (arith, less, small))
      (λ same.
      let by = general.is_general (changed σ v) τ (same ∙ general.unifies) in
      let size : tree_size (σ v) ≡ 1 = variable_size by.0 (σ v) 0 (sym (by.1 v within) ∙ changed_there σ v) in
      omega (arith, size, some))
      (smaller_or_same σ v s)

  pub right_terms_small :
      (most : ℕ) → tree_size (instance σ s) ≤ most → 1 ≤ most → (v : ℕ) → v < length right → tree_size (substitution right v) ≤ most
  right_terms_small most small some v within =
      let one : tree_size (instance σ s) ≡ tree_size (instance τ t) = ap tree_size general.unifies in
      ⊎_elim
      (λ less. omega (arith, less, one, small))
      (λ same.
      let by = general.is_general σ (changed τ v) (general.unifies ∙ sym same) in
      let size : tree_size (τ v) ≡ 1 = variable_size by.0 (τ v) 0 (sym (by.2 v within) ∙ changed_there τ v) in
      omega (arith, size, some))
      (smaller_or_same τ v t)

  -- ---- symbols

  module _ (test : SymbolTest) (s_passes : symbols_pass test s ≡ true) (t_passes : symbols_pass test t ≡ true) where
    pub left_terms_pass : (v : ℕ) → v < length left → symbols_pass test (substitution left v) ≡ true
    left_terms_pass v within =
        added-passes test s t (σ v) s_passes t_passes (λ f n there.
        adds-no_symbol s t σ τ (σ v) f n general.unifies
        (λ unify. let by = general.is_general (λ w. cleaned f n (σ w)) (λ w. cleaned f n (τ w)) unify in (by.0, by.1 v within))
        there)

    pub right_terms_pass : (v : ℕ) → v < length right → symbols_pass test (substitution right v) ≡ true
    right_terms_pass v within =
        added-passes test s t (τ v) s_passes t_passes (λ f n there.
        adds-no_symbol s t σ τ (τ v) f n general.unifies
        (λ unify. let by = general.is_general (λ w. cleaned f n (σ w)) (λ w. cleaned f n (τ w)) unify in (by.0, by.2 v within))
        there)
