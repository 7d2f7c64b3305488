-- Clauses of which each ground instance is covered.
use Rattle.std.proofs.Common.{◌≡◌, ℕ, Bool, sym, subst, ⊎_elim, ◌⊎◌}
use Rattle.fol_base.specs.Clause.{TreeClause}
use Rattle.fol_base.specs.Symbols.{FunctionSymbols}
use Rattle.fol_base.proofs.AboutClauses.MeaningLemmas.{ground_instances_are_ground}
use Rattle.fol_base.proofs.AboutInstances.CoverageLemmas.{Covered-instance, Covered-more, Covered-across}
use Rattle.laws_calculus.specs.Coverage.{CoversEach}

module _ {is_predicate : ℕ → Bool} (functions : FunctionSymbols is_predicate) where
  pub each-held : (Holds : TreeClause → Type 0) (c : TreeClause) → Holds c → CoversEach functions Holds c
  each-held Holds c holds g made = Covered-instance is_predicate functions Holds c g holds made

  pub each-more :
      (Few Many : TreeClause → Type 0) (c : TreeClause) → ((d : TreeClause) → Few d → Many d) → CoversEach functions Few c → CoversEach functions Many c
  each-more Few Many c more covers g made = Covered-more is_predicate functions Few Many g more (covers g made)

  -- what is covered by clauses that are covered is covered
  pub each-across :
      (Middle Holds : TreeClause → Type 0) (c : TreeClause)
      → ((d : TreeClause) → Middle d → CoversEach functions Holds d) → CoversEach functions Middle c → CoversEach functions Holds c
  each-across Middle Holds c each covers g made =
      Covered-across is_predicate functions Middle Holds g (ground_instances_are_ground is_predicate functions c g made)
      (λ d middle h of_d. each d middle h of_d) (covers g made)

  -- by those that satisfy a predicate, and by one more that is covered
  pub each-beside :
      (Used Holds : TreeClause → Type 0) (c d : TreeClause)
      → ((u : TreeClause) → Used u → CoversEach functions Holds u) → CoversEach functions Holds d
      → CoversEach functions (λ e. Used e ⊎ (e ≡ d)) c → CoversEach functions Holds c
  each-beside Used Holds c d used last covers =
      each-across (λ e. Used e ⊎ (e ≡ d)) Holds c
      (λ e h.
      ⊎_elim (λ (one : Used e). used e one) (λ (same : e ≡ d). subst (λ (f : TreeClause). CoversEach functions Holds f) (sym same) last) h)
      covers
