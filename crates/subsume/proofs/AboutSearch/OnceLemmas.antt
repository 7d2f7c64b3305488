-- Pairs in which no variable stands twice: there is a substitution that has them.
use Rattle.std.proofs.Common.{◌≡◌, ℕ, Bool, true, false, ◌||◌, ◌==◌, None, Some, List, [], ◌∷◌, ◌++◌, refl, ap, sym, ◌∙◌, subst, ⊎_elim}
use Rattle.std.specs.Prelude.{not, unwrap_or}
use Rattle.std.specs.List.{list_any}
use Rattle.std.proofs.lemmas.Bool.{and_parts, and_from, or_parts, not-true, cond-true, cond-false, cases_Bool, eqb-true, eq-eqb}
use Rattle.fol_base.specs.Tree.{Tree, variable, tree_variables}
use Rattle.fol_base.specs.Instance.{Substitution}
use Rattle.fol_base.specs.Subsumption.{all_different}
use Rattle.unifier.specs.Matching.{variables_of, term_for, by_pairs, HasPairs, with_further, IsMatched}
use Rattle.unifier.proofs.AboutMatching.MatchLemmas.{Pairs}
use Rattle.list_lemmas.proofs.Numbers.{differs-turned}

abbrev has : ℕ → List ℕ → Bool
has v vs = list_any (λ w. v == w) vs

has-push : (v w : ℕ) (vs : List ℕ) → has v vs ≡ false → (v == w) ≡ false → has v (vs ++ w ∷ []) ≡ false
has-push v w [] h n = ap (λ b. b || false) n
has-push v w (x ∷ vs) h n =
    let parts = or_parts (v == x) (has v vs) h in
    ap (λ b. b || has v (vs ++ w ∷ [])) parts.0 ∙ has-push v w vs parts.1 n

different-push : (w : ℕ) (vs : List ℕ) → all_different vs ≡ true → has w vs ≡ false → all_different (vs ++ w ∷ []) ≡ true
different-push w [] h n = refl
different-push w (v ∷ vs) h n =
    let parts = and_parts (not (has v vs)) (all_different vs) h in
    let others = or_parts (w == v) (has w vs) n in
    and_from (not (has v (vs ++ w ∷ []))) (all_different (vs ++ w ∷ []))
    (ap not (has-push v w vs (not-true (has v vs) parts.0) (differs-turned w v others.0)))
    (different-push w vs parts.1 others.1)

different-further : (vs ws : List ℕ) → all_different vs ≡ true → all_different (with_further vs ws) ≡ true
different-further vs [] h = h
different-further vs (w ∷ ws) h =
    ⊎_elim
    (λ e. subst (λ us. all_different (with_further us ws) ≡ true) (sym (cond-true (has w vs) vs (vs ++ w ∷ []) e)) (different-further vs ws h))
    (λ e.
    subst (λ us. all_different (with_further us ws) ≡ true) (sym (cond-false (has w vs) vs (vs ++ w ∷ []) e))
    (different-further (vs ++ w ∷ []) ws (different-push w vs h e)))
    (cases_Bool (has w vs))

-- what a match adds stands once
pub matched-once :
    (so_far : Pairs) (pattern target : Tree) (found : Pairs)
    → IsMatched so_far pattern target found → all_different (variables_of so_far) ≡ true → all_different (variables_of found) ≡ true
matched-once so_far pattern target found m h =
    subst (λ vs. all_different vs ≡ true) (sym m.covers) (different-further (variables_of so_far) (tree_variables pattern) h)

own-term :
    (ps : Pairs) (σ : Substitution)
    → all_different (variables_of ps) ≡ true → ((v : ℕ) (t : Tree) → term_for v ps ≡ Some t → σ v ≡ t) → HasPairs ps σ
own-term [] σ n h = tt
own-term (p ∷ ps) σ n h =
    let parts = and_parts (not (has p.0 (variables_of ps))) (all_different (variables_of ps)) n in (
      h p.0 p.1 (cond-true (p.0 == p.0) (Some p.1) (term_for p.0 ps) (eq-eqb p.0 p.0 refl)),
      own-term ps σ parts.1
          (λ v t e.
          ⊎_elim
          (λ same.
          let none : None ≡ Some t = sym (absent p.0 ps (not-true (has p.0 (variables_of ps)) parts.0)) ∙ ap (λ w. term_for w ps) (sym (eqb-true v p.0 same)) ∙ e in
          absurd cc)
          (λ other. h v t (cond-false (v == p.0) (Some p.1) (term_for v ps) other ∙ e))
          (cases_Bool (v == p.0))),
    )
  where
    absent : (v : ℕ) (qs : Pairs) → has v (variables_of qs) ≡ false → term_for v qs ≡ None
    absent v [] h = refl
    absent v (q ∷ qs) h =
        let parts = or_parts (v == q.0) (has v (variables_of qs)) h in
        cond-false (v == q.0) (Some q.1) (term_for v qs) parts.0 ∙ absent v qs parts.1

-- the substitution of the pairs has them
pub pairs-had : (ps : Pairs) → all_different (variables_of ps) ≡ true → HasPairs ps (by_pairs ps)
pairs-had ps n = own-term ps (by_pairs ps) n (λ v t e. ap (λ o. unwrap_or o (variable v)) e)
