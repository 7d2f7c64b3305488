-- The list of a clause's factorings, by two sides, one after another.
use Rattle.std.proofs.Common.{◌≡◌, ◌⊎◌, ℕ, ◌+◌, ◌*◌, ◌<◌, Bool, true, ◌&&◌, ◌||◌, ◌==◌, nat_lt, None, List, [], ◌∷◌, ◌++◌, length, refl, ap, ap₂, sym, ◌∙◌, subst, inl, inr, ⊎_elim, arith}
use Rattle.std.specs.Prelude.{slice_get}
use Rattle.std.proofs.lemmas.Bool.{true≢false, lt-ltb, ltb-true, false_from_ne_true, cases_lt, or_left, or_right, or_cases, and_from, and_parts, eq-eqb, eqb-true}
use Rattle.std.proofs.lemmas.Option.{same_Some, slice_get_within}
use Rattle.fol_base.specs.Clause.{TreeClause}
use Rattle.fol_base.specs.Selection.{SelectionMode}
use Rattle.fol_base.specs.declared.clause.Side.{Side}
use Rattle.fol_base.specs.declared.clause.Side.TheVariants.{Left, Right}
use Rattle.kernel_steps.specs.Named.{IsInference}
use Rattle.kernel_steps.specs.declared.key.Key.{Key}
use Rattle.kernel_steps.specs.declared.key.Key.TheVariants.{Para, Refl, Factor, Replaced}
use Rattle.bank_clause.specs.Clause.{clause_at, side_number}
use Rattle.bank_clause.specs.declared.member.Member.{Member}
use Rattle.eq_rules.specs.Inferences.{AreInferences, AreSomeInferences, IsMade, alone, is_factoring}
use Rattle.eq_rules.specs.Factoring.{number_of, factor_key, factors_before}
use Rattle.eq_rules.specs.Trying.{IsTried}
use Rattle.eq_rules.specs.declared.concluding.FactorPlace.{FactorPlace}
use Rattle.eq_rules.specs.declared.concluding.LiteralSide.{LiteralSide}
use Rattle.eq_rules.specs.declared.inference.Made.{Made}
use Rattle.eq_rules.specs.declared.inference.Inference.{Inference}
use Rattle.eq_rules.proofs.AboutConclusions.InferenceLists.{inferences-same, inferences-some, inferences-push}
use Rattle.eq_rules.proofs.AboutConclusions.MadeLemmas.{alone_there, alone_number}
use Rattle.eq_rules.proofs.AboutResolution.ResolutionLists.{inferences-none}

-- ---- numbers of sides

-- a number has one side
side-once : (i j : ℕ) (s z : Side) → side_number i s ≡ side_number j z → (i ≡ j) × (s ≡ z)
side-once i j Left Left h = (omega (arith, h), refl)
side-once i j Left Right h = absurd (omega (arith, h))
side-once i j Right Left h = absurd (omega (arith, h))
side-once i j Right Right h = (omega (arith, h), refl)

side-below : (i count : ℕ) (s : Side) → i < count → side_number i s < 2 * count
side-below i count Left h = omega (arith, h)
side-below i count Right h = omega (arith, h)

-- ---- a pair before another

before-says :
    (a b x y : ℕ) → (nat_lt x a || ((x == a) && nat_lt y b)) ≡ true → (x < a) ⊎ ((x ≡ a) × (y < b))
before-says a b x y h =
    ⊎_elim
    (λ e. inl (ltb-true x a e))
    (λ e. let parts = and_parts (x == a) (nat_lt y b) e in inr (eqb-true x a parts.0, ltb-true y b parts.1))
    (or_cases (nat_lt x a) ((x == a) && nat_lt y b) h)

before-first : (a b x y : ℕ) → x < a → (nat_lt x a || ((x == a) && nat_lt y b)) ≡ true
before-first a b x y h = or_left (nat_lt x a) ((x == a) && nat_lt y b) (lt-ltb x a h)

before-second : (a b x y : ℕ) → x ≡ a → y < b → (nat_lt x a || ((x == a) && nat_lt y b)) ≡ true
before-second a b x y same h =
    or_right (nat_lt x a) ((x == a) && nat_lt y b) (and_from (x == a) (nat_lt y b) (eq-eqb x a same) (lt-ltb y b h))

-- ---- from pair to pair

module _ (p : ℕ → Bool) (mode : SelectionMode) (m : Member) where
  -- the list stays where the pairs between have no inference
  pub factorings-same :
      (a b a' b' : ℕ) (found : List Inference)
      → ((x y : ℕ) → (x < a) ⊎ ((x ≡ a) × (y < b)) → (x < a') ⊎ ((x ≡ a') × (y < b')))
      → ((i j : ℕ) (s z : Side) (c : TreeClause)
      → (side_number i s < a') ⊎ ((side_number i s ≡ a') × (side_number j z < b'))
      → IsInference p mode (alone m) (Factor m.number i s j z) c
      → (side_number i s < a) ⊎ ((side_number i s ≡ a) × (side_number j z < b)))
      → AreInferences p mode (alone m) (factors_before a b) found → AreInferences p mode (alone m) (factors_before a' b') found
  factorings-same a b a' b' found wider narrow are =
      inferences-same p mode (alone m) (factors_before a b) (factors_before a' b') found are more back
    where
      tested : (a b x y : ℕ) → (x < a) ⊎ ((x ≡ a) × (y < b)) → (nat_lt x a || ((x == a) && nat_lt y b)) ≡ true
      tested a b x y h = ⊎_elim (λ e. before-first a b x y e) (λ e. before-second a b x y e.0 e.1) h

      more : (k : Key) → factors_before a b k ≡ true → factors_before a' b' k ≡ true
      more (Para first i s second j z place) h = h
      more (Refl q i) h = h
      more (Factor q i s j z) h =
          tested a' b' (side_number i s) (side_number j z)
          (wider (side_number i s) (side_number j z) (before-says a b (side_number i s) (side_number j z) h))
      more (Replaced q) h = h

      back : (k : Key) (c : TreeClause) → factors_before a' b' k ≡ true → IsInference p mode (alone m) k c → factors_before a b k ≡ true
      back (Para first i s second j z place) c h it = h
      back (Refl q i) c h it = h
      back (Factor q i s j z) c h it =
          tested a b (side_number i s) (side_number j z)
          (narrow i j s z c (before-says a' b' (side_number i s) (side_number j z) h)
          (subst (λ (n : ℕ). IsInference p mode (alone m) (Factor n i s j z) c) (alone_number m q it.clause it.there) it))
      back (Replaced q) c h it = h

  -- one more pair
  pub factorings-push :
      (place : FactorPlace) (found : List Inference) (made : Made)
      → AreInferences p mode (alone m) (factors_before (number_of place.becomes) (number_of place.other)) found
      → IsMade p mode (alone m) (factor_key m.number place) made
      → AreInferences p mode (alone m) (factors_before (number_of place.becomes) (number_of place.other + 1))
      (found ++ record { key = factor_key m.number place; result = made } ∷ [])
  factorings-push place found made are is =
      inferences-push p mode (alone m) (factors_before a b) (factors_before a (b + 1)) found
      (record { key = factor_key m.number place; result = made }) are is
      (false_from_ne_true (factors_before a b (factor_key m.number place)) (λ e.
      ⊎_elim (λ less. absurd (omega (arith, less))) (λ both. absurd (omega (arith, both.1))) (before-says a b a b e)))
      (before-second a (b + 1) a b refl (omega arith))
      more back
    where
      a : ℕ
      a = number_of place.becomes

      b : ℕ
      b = number_of place.other

      more : (k : Key) → factors_before a b k ≡ true → factors_before a (b + 1) k ≡ true
      more (Para first i s second j z place') h = h
      more (Refl q i) h = h
      more (Factor q i s j z) h =
          ⊎_elim
          (λ less. before-first a (b + 1) (side_number i s) (side_number j z) less)
          (λ both. before-second a (b + 1) (side_number i s) (side_number j z) both.0 (omega (arith, both.1)))
          (before-says a b (side_number i s) (side_number j z) h)
      more (Replaced q) h = h

      back :
          (k : Key) (c : TreeClause)
          → factors_before a (b + 1) k ≡ true → IsInference p mode (alone m) k c
          → (factors_before a b k ≡ true) ⊎ (k ≡ factor_key m.number place)
      back (Para first i s second j z place') c h it = inl h
      back (Refl q i) c h it = inl h
      back (Factor q i s j z) c h it =
          ⊎_elim
          (λ less. inl (before-first a b (side_number i s) (side_number j z) less))
          (λ both.
          elim (cases_lt (side_number j z) b) [
            | inl less ↦ inl (before-second a b (side_number i s) (side_number j z) both.0 less)
            | inr past ↦
                (let last : side_number j z ≡ side_number place.other.literal place.other.side = omega (arith, both.1, past) in
                let first_is = side-once i place.becomes.literal s place.becomes.side both.0 in
                let second_is = side-once j place.other.literal z place.other.side last in
                inr
                (ap (λ (n : ℕ). Factor n i s j z) (alone_number m q it.clause it.there)
                ∙ ap₂ (λ (x : ℕ) (w : Side). Factor m.number x w j z) first_is.0 first_is.1
                ∙ ap₂ (λ (x : ℕ) (w : Side). Factor m.number place.becomes.literal place.becomes.side x w) second_is.0 second_is.1))
          ])
          (before-says a (b + 1) (side_number i s) (side_number j z) h)
      back (Replaced q) c h it = inl h

  pub factorings-begin : AreInferences p mode (alone m) (factors_before 0 0) []
  factorings-begin = inferences-none p mode (alone m) (factors_before 0 0) none
    where
      none : (k : Key) (c : TreeClause) → factors_before 0 0 k ≡ true → IsInference p mode (alone m) k c → ⊥
      none (Para first i s second j z place) c h it = true≢false (sym h)
      none (Refl q i) c h it = true≢false (sym h)
      none (Factor q i s j z) c h it =
          ⊎_elim (λ less. absurd (omega (arith, less))) (λ both. absurd (omega (arith, both.1)))
          (before-says 0 0 (side_number i s) (side_number j z) h)
      none (Replaced q) c h it = true≢false (sym h)

  -- the literals of a factoring are the clause's
  inside :
      (i j : ℕ) (s z : Side) (c : TreeClause) → IsInference p mode (alone m) (Factor m.number i s j z) c
      → (i < length (clause_at m.clause).literals) × (j < length (clause_at m.clause).literals)
  inside i j s z c it =
      let same : it.clause ≡ clause_at m.clause = same_Some it.clause (clause_at m.clause) (sym it.there ∙ alone_there m) in (
        slice_get_within (clause_at m.clause).literals i it.infers.literal_i (ap (λ (q : TreeClause). slice_get q.literals i) (sym same) ∙ it.infers.i_there),
        slice_get_within (clause_at m.clause).literals j it.infers.literal_j (ap (λ (q : TreeClause). slice_get q.literals j) (sym same) ∙ it.infers.j_there),
      )

  -- all pairs of one side
  pub factorings-row :
      (a b : ℕ) (found : List Inference) → b ≡ 2 * length (clause_at m.clause).literals
      → AreInferences p mode (alone m) (factors_before a b) found → AreInferences p mode (alone m) (factors_before (a + 1) 0) found
  factorings-row a b found many are =
      factorings-same a b (a + 1) 0 found
      (λ x y h. ⊎_elim (λ less. inl (omega (arith, less))) (λ both. inl (omega (arith, both.0))) h)
      (λ i j s z c h it.
      ⊎_elim
      (λ less.
      elim (cases_lt (side_number i s) a) [
        | inl before ↦ inl before
        | inr past ↦
            (let here : side_number i s ≡ a = omega (arith, less, past) in
            let low = side-below j (length (clause_at m.clause).literals) z (inside i j s z c it).1 in
            inr (here, omega (arith, low, many)))
      ])
      (λ both. absurd (omega (arith, both.1)))
      h)
      are

  pub factorings-end :
      (a : ℕ) (found : List Inference) → a ≡ 2 * length (clause_at m.clause).literals
      → AreInferences p mode (alone m) (factors_before a 0) found → AreInferences p mode (alone m) is_factoring found
  factorings-end a found many are = inferences-same p mode (alone m) (factors_before a 0) is_factoring found are all back
    where
      all : (k : Key) → factors_before a 0 k ≡ true → is_factoring k ≡ true
      all (Para first i s second j z place) h = h
      all (Refl q i) h = h
      all (Factor q i s j z) h = refl
      all (Replaced q) h = h

      back : (k : Key) (c : TreeClause) → is_factoring k ≡ true → IsInference p mode (alone m) k c → factors_before a 0 k ≡ true
      back (Para first i s second j z place) c h it = h
      back (Refl q i) c h it = h
      back (Factor q i s j z) c h it =
          let here = subst (λ (n : ℕ). IsInference p mode (alone m) (Factor n i s j z) c) (alone_number m q it.clause it.there) it in
          let low = side-below i (length (clause_at m.clause).literals) s (inside i j s z c here).0 in
          before-first a 0 (side_number i s) (side_number j z) (omega (arith, low, many))
      back (Replaced q) c h it = h

  -- those before a place are some of all
  pub factorings-some :
      (a b : ℕ) (found : List Inference) → AreInferences p mode (alone m) (factors_before a b) found → AreSomeInferences p mode (alone m) is_factoring found
  factorings-some a b found are = inferences-some p mode (alone m) (factors_before a b) is_factoring found are all
    where
      all : (k : Key) → factors_before a b k ≡ true → is_factoring k ≡ true
      all (Para first i s second j z place) h = h
      all (Refl q i) h = h
      all (Factor q i s j z) h = refl
      all (Replaced q) h = h

  -- a pair without an inference
  pub factorings-none :
      (place : FactorPlace) (found : List Inference)
      → AreInferences p mode (alone m) (factors_before (number_of place.becomes) (number_of place.other)) found
      → IsTried p mode (alone m) (factor_key m.number place) None
      → AreInferences p mode (alone m) (factors_before (number_of place.becomes) (number_of place.other + 1)) found
  factorings-none place found are tried =
      let a : ℕ = number_of place.becomes in
      let b : ℕ = number_of place.other in
      factorings-same a b a (b + 1) found
      (λ x y h. ⊎_elim (λ less. inl less) (λ both. inr (both.0, omega (arith, both.1))) h)
      (λ i j s z c h it.
      ⊎_elim
      (λ less. inl less)
      (λ both.
      elim (cases_lt (side_number j z) b) [
        | inl less ↦ inr (both.0, less)
        | inr past ↦
            (let last : side_number j z ≡ side_number place.other.literal place.other.side = omega (arith, both.1, past) in
            let first_is = side-once i place.becomes.literal s place.becomes.side both.0 in
            let second_is = side-once j place.other.literal z place.other.side last in
            let key_is : Factor m.number i s j z ≡ factor_key m.number place =
            ap₂ (λ (x : ℕ) (w : Side). Factor m.number x w j z) first_is.0 first_is.1
            ∙ ap₂ (λ (x : ℕ) (w : Side). Factor m.number place.becomes.literal place.becomes.side x w) second_is.0 second_is.1 in
            absurd (tried c (subst (λ (k : Key). IsInference p mode (alone m) k c) key_is it)))
      ])
      h)
      are

  -- a side without an inference
  pub factorings-skip :
      (side : LiteralSide) (found : List Inference)
      → ((j : ℕ) (z : Side) (c : TreeClause) → IsInference p mode (alone m) (Factor m.number side.literal side.side j z) c → ⊥)
      → AreInferences p mode (alone m) (factors_before (number_of side) 0) found
      → AreInferences p mode (alone m) (factors_before (number_of side + 1) 0) found
  factorings-skip side found none are =
      let a : ℕ = number_of side in
      factorings-same a 0 (a + 1) 0 found
      (λ x y h. ⊎_elim (λ less. inl (omega (arith, less))) (λ both. absurd (omega (arith, both.1))) h)
      (λ i j s z c h it.
      ⊎_elim
      (λ less.
      elim (cases_lt (side_number i s) a) [
        | inl before ↦ inl before
        | inr past ↦
            (let here : side_number i s ≡ side_number side.literal side.side = omega (arith, less, past) in
            let is = side-once i side.literal s side.side here in
            let key_is : Factor m.number i s j z ≡ Factor m.number side.literal side.side j z =
            ap₂ (λ (x : ℕ) (w : Side). Factor m.number x w j z) is.0 is.1 in
            absurd (none j z c (subst (λ (k : Key). IsInference p mode (alone m) k c) key_is it)))
      ])
      (λ both. absurd (omega (arith, both.1)))
      h)
      are
