-- Laws of `with_pair` and `without`.
use Rattle.std.proofs.Common.{◌≡◌, ◌≢◌, ℕ, ◌<◌, ◌≤◌, List, [], ◌∷◌, ◌++◌, refl, ap, inl, inr, arith}
use Rattle.std.specs.List.{AllByRecursion}
use Rattle.std.proofs.lemmas.Bool.{lt-ltb, le-ltb, eq-eqb, ne_eqb, cases_eq, cases_lt}
use Rattle.clause_queue.specs.Pairs.{with_pair, without, IsAbsent, IsRising}

-- p goes before q where its number is lower
with_pair_before : (p q : ℕ × ℕ) (qs : List (ℕ × ℕ)) → p.0 < q.0 → with_pair p (q ∷ qs) ≡ p ∷ q ∷ qs
with_pair_before p q qs less = rw (lt-ltb p.0 q.0 less) refl

with_pair_after : (p q : ℕ × ℕ) (qs : List (ℕ × ℕ)) → q.0 ≤ p.0 → with_pair p (q ∷ qs) ≡ q ∷ with_pair p qs
with_pair_after p q qs more = rw (le-ltb p.0 q.0 more) refl

-- the two places of p in q ∷ qs
module _ (P : List (ℕ × ℕ) → Type 0) (p q : ℕ × ℕ) (qs : List (ℕ × ℕ)) where
  pub with_pair_cases : (p.0 < q.0 → P (p ∷ q ∷ qs)) → (q.0 ≤ p.0 → P (q ∷ with_pair p qs)) → P (with_pair p (q ∷ qs))
  with_pair_cases before after =
      elim (cases_lt p.0 q.0) [
        | inl less ↦ rw (with_pair_before p q qs less) (before less)
        | inr more ↦ rw (with_pair_after p q qs more) (after more)
      ]

pub all-with_pair : (P : ℕ × ℕ → Type 0) (p : ℕ × ℕ) (qs : List (ℕ × ℕ)) → P p → AllByRecursion P qs → AllByRecursion P (with_pair p qs)
all-with_pair P p [] one all = (one, all)
all-with_pair P p (q ∷ qs) one all =
    with_pair_cases (AllByRecursion P) p q qs (λ _. (one, all)) (λ _. (all.0, all-with_pair P p qs one all.1))

pub all_parts : (P : ℕ × ℕ → Type 0) (p : ℕ × ℕ) (qs : List (ℕ × ℕ)) → AllByRecursion P (with_pair p qs) → P p × AllByRecursion P qs
all_parts P p [] all = all
all_parts P p (q ∷ qs) all =
    with_pair_cases (λ l. AllByRecursion P l → P p × AllByRecursion P (q ∷ qs)) p q qs
    (λ _ all. all) (λ _ all. let rest = all_parts P p qs all.1 in (rest.0, (all.0, rest.1))) all

pub all-append : (P : ℕ × ℕ → Type 0) (ps qs : List (ℕ × ℕ)) → AllByRecursion P ps → AllByRecursion P qs → AllByRecursion P (ps ++ qs)
all-append P [] qs front back = back
all-append P (p ∷ ps) qs front back = (front.0, all-append P ps qs front.1 back)

pub all_sides : (P : ℕ × ℕ → Type 0) (ps qs : List (ℕ × ℕ)) → AllByRecursion P (ps ++ qs) → AllByRecursion P ps × AllByRecursion P qs
all_sides P [] qs all = (tt, all)
all_sides P (p ∷ ps) qs all = let rest = all_sides P ps qs all.1 in ((all.0, rest.0), rest.1)

pub all-weaker : (P Q : ℕ × ℕ → Type 0) → ((q : ℕ × ℕ) → P q → Q q) → (qs : List (ℕ × ℕ)) → AllByRecursion P qs → AllByRecursion Q qs
all-weaker P Q step [] all = all
all-weaker P Q step (q ∷ qs) all = (step q all.0, all-weaker P Q step qs all.1)

pub all_both : (P Q R : ℕ × ℕ → Type 0) → ((q : ℕ × ℕ) → P q → Q q → R q) → (qs : List (ℕ × ℕ)) → AllByRecursion P qs → AllByRecursion Q qs → AllByRecursion R qs
all_both P Q R step [] p q = tt
all_both P Q R step (r ∷ rs) p q = (step r p.0 q.0, all_both P Q R step rs p.1 q.1)

-- two pairs of different numbers may be put in either order
pub with_pair_comm : (a b : ℕ × ℕ) (qs : List (ℕ × ℕ)) → a.0 ≢ b.0 → with_pair a (with_pair b qs) ≡ with_pair b (with_pair a qs)
with_pair_comm a b [] differ =
    elim (cases_lt a.0 b.0) [
      | inl less ↦ cc (with_pair_before a b [] less, with_pair_after b a [] (omega arith))
      | inr more ↦ cc (with_pair_after a b [] more, with_pair_before b a [] (omega arith))
    ]
with_pair_comm a b (q ∷ qs) differ =
    elim (cases_lt a.0 q.0) [
      | inl a_first ↦ elim (cases_lt b.0 q.0) [
        | inl b_first ↦ elim (cases_lt a.0 b.0) [
          | inl less ↦ cc (with_pair_before a q qs a_first, with_pair_before b q qs b_first, with_pair_before a b (q ∷ qs) less, with_pair_after b a (q ∷ qs) (omega arith))
          | inr more ↦ cc (with_pair_before a q qs a_first, with_pair_before b q qs b_first, with_pair_after a b (q ∷ qs) more, with_pair_before b a (q ∷ qs) (omega arith))
        ]
        | inr b_later ↦ cc (with_pair_before a q qs a_first, with_pair_after b q qs b_later, with_pair_before a q (with_pair b qs) a_first, with_pair_after b a (q ∷ qs) (omega arith))
      ]
      | inr a_later ↦ elim (cases_lt b.0 q.0) [
        | inl b_first ↦ cc (with_pair_after a q qs a_later, with_pair_before b q qs b_first, with_pair_after a b (q ∷ qs) (omega arith), with_pair_before b q (with_pair a qs) b_first)
        | inr b_later ↦ cc (with_pair_after a q qs a_later, with_pair_after b q qs b_later, with_pair_after a q (with_pair b qs) a_later, with_pair_after b q (with_pair a qs) b_later, with_pair_comm a b qs differ)
      ]
    ]

pub with_pair-append_left : (p : ℕ × ℕ) (ps qs : List (ℕ × ℕ)) → AllByRecursion (λ q. p.0 < q.0) qs → with_pair p (ps ++ qs) ≡ with_pair p ps ++ qs
with_pair-append_left p [] [] above = refl
with_pair-append_left p [] (q ∷ qs) above = with_pair_before p q qs above.0
with_pair-append_left p (q ∷ ps) qs above =
    elim (cases_lt p.0 q.0) [
      | inl less ↦ rw (with_pair_before p q (ps ++ qs) less, with_pair_before p q ps less) refl
      | inr more ↦ rw (with_pair_after p q (ps ++ qs) more, with_pair_after p q ps more) (ap (λ l. q ∷ l) (with_pair-append_left p ps qs above))
    ]

pub with_pair-append_right : (p : ℕ × ℕ) (ps qs : List (ℕ × ℕ)) → AllByRecursion (λ q. q.0 ≤ p.0) ps → with_pair p (ps ++ qs) ≡ ps ++ with_pair p qs
with_pair-append_right p [] qs below = refl
with_pair-append_right p (q ∷ ps) qs below =
    rw (with_pair_after p q (ps ++ qs) below.0) (ap (λ l. q ∷ l) (with_pair-append_right p ps qs below.1))

pub without_absent : (n : ℕ) (qs : List (ℕ × ℕ)) → IsAbsent n qs → without n qs ≡ qs
without_absent n [] absent = refl
without_absent n (q ∷ qs) absent = rw (ne_eqb q.0 n absent.0) (ap (λ l. q ∷ l) (without_absent n qs absent.1))

pub without-with_pair : (p : ℕ × ℕ) (qs : List (ℕ × ℕ)) → IsAbsent p.0 qs → without p.0 (with_pair p qs) ≡ qs
without-with_pair p [] absent = rw (eq-eqb p.0 p.0 refl) refl
without-with_pair p (q ∷ qs) absent =
    with_pair_cases (λ l. without p.0 l ≡ q ∷ qs) p q qs
    (λ _. rw (eq-eqb p.0 p.0 refl) (without_absent p.0 (q ∷ qs) absent))
    (λ _. rw (ne_eqb q.0 p.0 absent.0) (ap (λ l. q ∷ l) (without-with_pair p qs absent.1)))

pub absent-without : (n : ℕ) (qs : List (ℕ × ℕ)) → IsAbsent n (without n qs)
absent-without n [] = tt
absent-without n (q ∷ qs) =
    elim (cases_eq q.0 n) [
      | inl same ↦ rw (eq-eqb q.0 n same) (absent-without n qs)
      | inr other ↦ rw (ne_eqb q.0 n other) (other, absent-without n qs)
    ]

pub rising-with_pair : (p : ℕ × ℕ) (qs : List (ℕ × ℕ)) → IsRising qs → IsAbsent p.0 qs → IsRising (with_pair p qs)
rising-with_pair p [] rising absent = (tt, tt)
rising-with_pair p (q ∷ qs) rising absent =
    with_pair_cases IsRising p q qs
    (λ less. ((less, all-weaker (λ r. q.0 < r.0) (λ r. p.0 < r.0) (λ r above. omega arith) qs rising.0), rising))
    (λ more. let apart = absent.0 in (all-with_pair (λ r. q.0 < r.0) p qs (omega arith) rising.0, rising-with_pair p qs rising.1 absent.1))

pub rising_rest : (p : ℕ × ℕ) (qs : List (ℕ × ℕ)) → IsRising (with_pair p qs) → IsRising qs × IsAbsent p.0 qs
rising_rest p [] rising = (tt, tt)
rising_rest p (q ∷ qs) rising =
    with_pair_cases (λ l. IsRising l → IsRising (q ∷ qs) × IsAbsent p.0 (q ∷ qs)) p q qs
    (λ less rising. (rising.1, all-weaker (λ r. p.0 < r.0) (λ r. r.0 ≢ p.0) (λ r above. omega arith) (q ∷ qs) rising.0))
    (λ more rising.
    let rest = rising_rest p qs rising.1 in
    let above = all_parts (λ r. q.0 < r.0) p qs rising.0 in
    ((above.1, rest.0), (λ same. absurd (omega arith), rest.1))) rising
