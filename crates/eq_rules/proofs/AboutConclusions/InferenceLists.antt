-- Lists of exactly the inferences of some names, as they grow.
use Rattle.std.proofs.Common.{◌≡◌, ◌⊎◌, ℕ, Bool, true, false, Option, Some, List, [], ◌∷◌, ◌++◌, get_or, ap, sym, ◌∙◌, subst, ⊎_elim, arith}
use Rattle.std.specs.Prelude.{slice_get, All}
use Rattle.std.proofs.lemmas.Bool.{true≢false}
use Rattle.std.proofs.lemmas.List.Elements.{All-push, Contains-append_left, Contains-append_right, Contains-get_or}
use Rattle.std.proofs.lemmas.Option.{get_or_from_slice_get, slice_get_within}
use Rattle.fol_base.specs.Clause.{TreeClause}
use Rattle.fol_base.specs.Selection.{SelectionMode}
use Rattle.kernel_steps.specs.Named.{IsInference}
use Rattle.kernel_steps.specs.declared.key.Key.{Key}
use Rattle.eq_rules.specs.Inferences.{IsMade, AreInferences, AreSomeInferences}
use Rattle.eq_rules.specs.declared.inference.Inference.{Inference}
use Rattle.list_lemmas.proofs.Places.{get-pushed}

module _ (p : ℕ → Bool) (mode : SelectionMode) (clauses : ℕ → Option TreeClause) (P Q : Key → Bool) where
  abbrev Fact : Inference → Type 0
  Fact e = (P e.key ≡ true) × IsMade p mode clauses e.key e.result

  abbrev Wider : Inference → Type 0
  Wider e = (Q e.key ≡ true) × IsMade p mode clauses e.key e.result

  widened : ((k : Key) → P k ≡ true → Q k ≡ true) → (xs : List Inference) → All Fact xs → All Wider xs
  widened wider xs all k d within = let fact = all k d within in (wider (get_or xs k d).key fact.0, fact.1)

  fact_at : (xs : List Inference) → All Fact xs → (m : ℕ) (d : Inference) → slice_get xs m ≡ Some d → P d.key ≡ true
  fact_at xs all m d at = subst (λ (e : Inference). P e.key ≡ true) (get_or_from_slice_get xs m d d at) (all m d (slice_get_within xs m d at)).0

  -- no other inference has a name that passes
  pub inferences-same :
      (xs : List Inference)
      → AreInferences p mode clauses P xs
      → ((k : Key) → P k ≡ true → Q k ≡ true)
      → ((k : Key) (c : TreeClause) → Q k ≡ true → IsInference p mode clauses k c → P k ≡ true)
      → AreInferences p mode clauses Q xs
  inferences-same xs are wider back = record {
    made = widened wider xs are.made;
    complete = λ k c passes it. are.complete k c (back k c passes it) it;
    once = are.once;
  }

  -- all of a narrower test are some of a wider one
  pub inferences-some :
      (xs : List Inference) → AreInferences p mode clauses P xs → ((k : Key) → P k ≡ true → Q k ≡ true) → AreSomeInferences p mode clauses Q xs
  inferences-some xs are wider = record { made = widened wider xs are.made; once = are.once }

  -- one more
  pub inferences-push :
      (xs : List Inference) (e : Inference)
      → AreInferences p mode clauses P xs → IsMade p mode clauses e.key e.result
      → P e.key ≡ false → Q e.key ≡ true
      → ((k : Key) → P k ≡ true → Q k ≡ true)
      → ((k : Key) (c : TreeClause) → Q k ≡ true → IsInference p mode clauses k c → (P k ≡ true) ⊎ (k ≡ e.key))
      → AreInferences p mode clauses Q (xs ++ e ∷ [])
  inferences-push xs e are made new passes wider back = record {
    made = All-push Wider xs e (widened wider xs are.made) (passes, made);
    complete = λ k c passes it.
        ⊎_elim
        (λ before.
        let found = are.complete k c before it in
        (found.0, Contains-append_left xs (e ∷ []) found.0 found.1, found.2))
        (λ last. (e, Contains-append_right xs (e ∷ []) e (Contains-get_or (e ∷ []) 0 e (omega arith)), sym last))
        (back k c passes it);
    once = λ m n d f at_m at_n same.
        ⊎_elim
        (λ m_before.
        ⊎_elim
        (λ n_before. are.once m n d f m_before n_before same)
        (λ n_last.
        absurd (true≢false (sym (fact_at xs are.made m d m_before) ∙ ap P same ∙ sym (ap (λ (g : Inference). P g.key) n_last.1) ∙ new)))
        (get-pushed xs e n f at_n))
        (λ m_last.
        ⊎_elim
        (λ n_before.
        absurd (true≢false (sym (fact_at xs are.made n f n_before) ∙ sym (ap P same) ∙ sym (ap (λ (g : Inference). P g.key) m_last.1) ∙ new)))
        (λ n_last. m_last.0 ∙ sym n_last.0)
        (get-pushed xs e n f at_n))
        (get-pushed xs e m d at_m);
  }
