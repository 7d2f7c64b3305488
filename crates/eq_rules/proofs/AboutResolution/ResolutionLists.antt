-- The list of a clause's resolutions, literal by literal.
use Rattle.std.proofs.Common.{◌≡◌, ◌⊎◌, ℕ, ◌+◌, Bool, true, false, nat_lt, Option, None, Some, List, [], ◌∷◌, ◌++◌, length, refl, ap, ap₂, sym, ◌∙◌, subst, inl, inr, ⊎_elim, arith}
use Rattle.std.specs.Prelude.{slice_get}
use Rattle.std.proofs.lemmas.Bool.{true≢false, lt-ltb, ltb-true, false_from_ne_true, cases_lt}
use Rattle.std.proofs.lemmas.Option.{same_Some, slice_get_within}
use Rattle.fol_base.specs.Clause.{TreeClause}
use Rattle.fol_base.specs.Selection.{SelectionMode}
use Rattle.kernel_steps.specs.Named.{IsInference}
use Rattle.kernel_steps.specs.declared.key.Key.{Key}
use Rattle.kernel_steps.specs.declared.key.Key.TheVariants.{Para, Refl, Factor, Replaced}
use Rattle.bank_clause.specs.Clause.{clause_at}
use Rattle.bank_clause.specs.declared.member.Member.{Member}
use Rattle.eq_rules.specs.Inferences.{AreInferences, AreSomeInferences, IsMade, alone, is_resolution}
use Rattle.eq_rules.specs.Trying.{IsTried}
use Rattle.eq_rules.specs.declared.inference.Made.{Made}
use Rattle.eq_rules.specs.declared.inference.Inference.{Inference}
use Rattle.eq_rules.proofs.AboutConclusions.InferenceLists.{inferences-same, inferences-some, inferences-push}
use Rattle.eq_rules.proofs.AboutConclusions.MadeLemmas.{alone_there, alone_number}

-- nothing has a name that none passes
pub inferences-none :
    (p : ℕ → Bool) (mode : SelectionMode) (clauses : ℕ → Option TreeClause) (P : Key → Bool)
    → ((k : Key) (c : TreeClause) → P k ≡ true → IsInference p mode clauses k c → ⊥) → AreInferences p mode clauses P []
inferences-none p mode clauses P none = record {
  made = λ k d less. absurd (omega (arith, less));
  complete = λ k c passes it. absurd (none k c passes it);
  once = λ m n d e at_m at_n same. absurd (omega (arith, slice_get_within [] m d at_m));
}

-- the resolutions of literals below n
abbrev pub resolves_below : ℕ → Key → Bool
resolves_below n (Refl clause literal) = nat_lt literal n
resolves_below n _ = false

module _ (p : ℕ → Bool) (mode : SelectionMode) (m : Member) where
  pub resolutions-begin : AreInferences p mode (alone m) (resolves_below 0) []
  resolutions-begin = inferences-none p mode (alone m) (resolves_below 0) none
    where
      none : (k : Key) (c : TreeClause) → resolves_below 0 k ≡ true → IsInference p mode (alone m) k c → ⊥
      none (Para first i s second j z place) c h it = true≢false (sym h)
      none (Refl q i) c h it = absurd (omega (arith, ltb-true i 0 h))
      none (Factor q i s j z) c h it = true≢false (sym h)
      none (Replaced q) c h it = true≢false (sym h)

  more : (n : ℕ) (k : Key) → resolves_below n k ≡ true → resolves_below (n + 1) k ≡ true
  more n (Para first i s second j z place) h = h
  more n (Refl q i) h = lt-ltb i (n + 1) (omega (arith, ltb-true i n h))
  more n (Factor q i s j z) h = h
  more n (Replaced q) h = h

  last :
      (n : ℕ) (k : Key) (c : TreeClause)
      → resolves_below (n + 1) k ≡ true → IsInference p mode (alone m) k c → (resolves_below n k ≡ true) ⊎ (k ≡ Refl m.number n)
  last n (Para first i s second j z place) c h it = inl h
  last n (Refl q i) c h it =
      elim (cases_lt i n) [
        | inl less ↦ inl (lt-ltb i n less)
        | inr past ↦
            (let here : i ≡ n = omega (arith, ltb-true i (n + 1) h, past) in
            inr (ap₂ (λ (a b : ℕ). Refl a b) (alone_number m q it.clause it.there) here))
      ]
  last n (Factor q i s j z) c h it = inl h
  last n (Replaced q) c h it = inl h

  pub resolutions-skip :
      (n : ℕ) (found : List Inference)
      → AreInferences p mode (alone m) (resolves_below n) found → IsTried p mode (alone m) (Refl m.number n) None
      → AreInferences p mode (alone m) (resolves_below (n + 1)) found
  resolutions-skip n found are tried =
      inferences-same p mode (alone m) (resolves_below n) (resolves_below (n + 1)) found are (more n) (λ k c passes it.
      ⊎_elim
      (λ before. before)
      (λ here. absurd (tried c (subst (λ (key : Key). IsInference p mode (alone m) key c) here it)))
      (last n k c passes it))

  pub resolutions-push :
      (n : ℕ) (found : List Inference) (made : Made)
      → AreInferences p mode (alone m) (resolves_below n) found → IsMade p mode (alone m) (Refl m.number n) made
      → AreInferences p mode (alone m) (resolves_below (n + 1)) (found ++ record { key = Refl m.number n; result = made } ∷ [])
  resolutions-push n found made are is =
      inferences-push p mode (alone m) (resolves_below n) (resolves_below (n + 1)) found (record { key = Refl m.number n; result = made }) are is
      (false_from_ne_true (nat_lt n n) (λ e. absurd (omega (arith, ltb-true n n e))))
      (lt-ltb n (n + 1) (omega arith))
      (more n) (last n)

  pub resolutions-end :
      (n : ℕ) (found : List Inference)
      → n ≡ length (clause_at m.clause).literals → AreInferences p mode (alone m) (resolves_below n) found
      → AreInferences p mode (alone m) is_resolution found
  resolutions-end n found many are = inferences-same p mode (alone m) (resolves_below n) is_resolution found are all back
    where
      all : (k : Key) → resolves_below n k ≡ true → is_resolution k ≡ true
      all (Para first i s second j z place) h = h
      all (Refl q i) h = refl
      all (Factor q i s j z) h = h
      all (Replaced q) h = h

      back : (k : Key) (c : TreeClause) → is_resolution k ≡ true → IsInference p mode (alone m) k c → resolves_below n k ≡ true
      back (Para first i s second j z place) c h it = h
      back (Refl q i) c h it =
          let number = alone_number m q it.clause it.there in
          let same : it.clause ≡ clause_at m.clause =
          same_Some it.clause (clause_at m.clause) (sym it.there ∙ ap (alone m) number ∙ alone_there m) in
          let at : slice_get (clause_at m.clause).literals i ≡ Some it.infers.literal =
          ap (λ (q : TreeClause). slice_get q.literals i) (sym same) ∙ it.infers.literal_there in
          lt-ltb i n (omega (arith, many, slice_get_within (clause_at m.clause).literals i it.infers.literal at))
      back (Factor q i s j z) c h it = h
      back (Replaced q) c h it = h

  -- those of the first literals are some of all
  pub resolutions-some :
      (n : ℕ) (found : List Inference) → AreInferences p mode (alone m) (resolves_below n) found → AreSomeInferences p mode (alone m) is_resolution found
  resolutions-some n found are = inferences-some p mode (alone m) (resolves_below n) is_resolution found are all
    where
      all : (k : Key) → resolves_below n k ≡ true → is_resolution k ≡ true
      all (Para first i s second j z place) h = h
      all (Refl q i) h = refl
      all (Factor q i s j z) h = h
      all (Replaced q) h = h
