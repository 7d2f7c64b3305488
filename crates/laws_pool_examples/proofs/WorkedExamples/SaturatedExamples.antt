-- A negative unit is saturated by itself, and nothing with the empty clause is.
use Rattle.std.proofs.Common.{◌≡◌, ℕ, zero, suc, ◌<◌, true, List, [], ◌∷◌, refl, ap, sym, ◌∙◌, subst, ⊎_elim, arith}
use Rattle.std.specs.Prelude.{Some, slice_get, slice_index_or, Contains}
use Rattle.std.proofs.lemmas.Bool.{true≢false}
use Rattle.std.proofs.lemmas.List.Elements.{All-nil, All-cons}
use Rattle.std.proofs.lemmas.Option.{none-some, same_Some}
use Rattle.fol_base.specs.Instance.{Substitution}
use Rattle.fol_base.specs.Clause.{TreeLiteral, TreeClause}
use Rattle.fol_base.specs.Ground.{GroundClause, literals_instance}
use Rattle.fol_base.specs.GroundInference.{GroundSuperposition, GroundResolution, GroundFactoring, GroundConclusion}
use Rattle.fol_base.specs.Rules.{resolved}
use Rattle.fol_base.specs.Selection.{SelectionMode}
use Rattle.fol_base.specs.Symbols.{FunctionSymbols}
use Rattle.fol_base.specs.Examples.{a, clause, is_predicate}
use Rattle.fol_base.proofs.AboutInstances.CoverageLemmas.{covers_instances}
use Rattle.fol_base.proofs.AboutClauses.RuleLemmas.{superposed-parts, superposed_literal-parts, factored-parts}
use Rattle.kernel_steps.specs.Conclusion.{empty_clause}
use Rattle.kernel_steps.specs.Examples.{not_p}
use Rattle.laws_calculus.specs.Coverage.{CoversInstancesOf}
use Rattle.pool_history.specs.Saturated.{IsSaturated}

abbrev denial : TreeClause
denial = clause (not_p a ∷ [])

-- no literal of an instance is positive, and none has equal sides
no_positive : (σ : Substitution) (i : ℕ) (l : TreeLiteral) → slice_get (literals_instance σ denial.literals) i ≡ Some l → l.positive ≡ true → ⊥
no_positive σ zero l there positive = true≢false (sym positive ∙ ap (λ (k : TreeLiteral). k.positive) (sym (same_Some _ l there)))
no_positive σ (suc i) l there positive = none-some l there

none_resolved : (σ : Substitution) (i : ℕ) (g : GroundClause) → resolved (literals_instance σ denial.literals) i ≡ Some g → ⊥
none_resolved σ zero g made = none-some g made
none_resolved σ (suc i) g made = none-some g made

-- the one member
only : (c : TreeClause) → Contains (denial ∷ []) c → denial ≡ c
only c there = by there.0 there.1 there.2
  where
    by : (k : ℕ) → k < 1 → slice_index_or (denial ∷ []) k c ≡ c → denial ≡ c
    by zero within same = same
    by (suc k) within same = absurd (omega (arith, within))

module _ (functions : FunctionSymbols is_predicate) (mode : SelectionMode) where
  no_superposition : (second : TreeClause) (g : GroundClause) → GroundSuperposition functions mode denial second g → ⊥
  no_superposition second g made =
      let p = superposed-parts (literals_instance made.first_trees denial.literals) made.i made.from_side (literals_instance made.second_trees second.literals) made.j made.into_side made.place g made.concludes in
      let q = superposed_literal-parts p.from made.from_side p.into made.into_side made.place p.literal p.literal_made in
      no_positive made.first_trees made.i p.from p.from_there q.positive

  no_factoring : (g : GroundClause) → GroundFactoring functions mode denial g → ⊥
  no_factoring g made =
      let p = factored-parts (literals_instance made.trees denial.literals) made.i made.side_i made.j made.side_j g made.concludes in
      no_positive made.trees made.i p.literal_i p.i_there p.i_positive

  no_conclusion : (g : GroundClause) → GroundConclusion functions mode (Contains (denial ∷ [])) g → ⊥
  no_conclusion g made =
      ⊎_elim
      (λ para. no_superposition para.1 g (subst (λ (c : TreeClause). GroundSuperposition functions mode c para.1 g) (sym (only para.0 para.2)) para.4))
      (λ others.
      ⊎_elim
      (λ refl_made.
      let step = subst (λ (c : TreeClause). GroundResolution functions mode c g) (sym (only refl_made.0 refl_made.1)) refl_made.2 in
      none_resolved step.trees step.i g step.concludes)
      (λ factor. no_factoring g (subst (λ (c : TreeClause). GroundFactoring functions mode c g) (sym (only factor.0 factor.1)) factor.2))
      others)
      made

  pub denial_saturated : IsSaturated functions mode (denial ∷ []) (denial ∷ [])
  denial_saturated = record {
    none_empty = refl;
    form_covered =
        All-cons (CoversInstancesOf functions (denial ∷ [])) denial []
        (λ g is. covers_instances is_predicate functions (denial ∷ []) denial g (0, omega arith, refl) is)
        (All-nil (CoversInstancesOf functions (denial ∷ [])));
    closed = λ g made. absurd (no_conclusion g made);
  }

  pub empty_not_saturated : (form : List TreeClause) → IsSaturated functions mode form (empty_clause ∷ []) → ⊥
  empty_not_saturated form saturated = true≢false (sym saturated.none_empty)
