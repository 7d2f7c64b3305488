-- Clauses that met: of two clauses whose jobs are done the one of the later position met the other, while both live. So each inference of
-- living clauses whose jobs are done was counted. It stands on positions that stay, and on what jobs are told.
use Rattle.std.proofs.Common.{◌≡◌, ℕ, ◌+◌, ◌<◌, ◌≤◌, ◌⊎◌, Bool, true, false, not, ◌&&◌, ◌||◌, ◌==◌, List, [], ◌∷◌, ◌++◌, length, refl, ap, sym, ◌∙◌, inl, inr, ⊎_elim, arith, subst}
use Rattle.std.specs.Prelude.{Option, None, Some, cond, nat_lt, filter, slice_get, option_map}
use Rattle.std.specs.List.{position_or_len, list_all}
use Rattle.std.proofs.lemmas.Bool.{true≢false, and_parts, and_from, or_cases, or_left, or_right, not-true, not_from_false, eqb-true, eq-eqb, ltb-true, cond-true}
use Rattle.std.proofs.lemmas.List.{length-append}
use Rattle.std.proofs.lemmas.List.Folds.{list_any-append}
use Rattle.fol_base.specs.Clause.{TreeClause}
use Rattle.fol_base.specs.Selection.{SelectionMode}
use Rattle.fol_base.proofs.WorkedExamples.TestLemmas.{option_map-some, list_all-joined}
use Rattle.kbo_order.proofs.AboutMultisets.MemberLemmas.{In, contains-In}
use Rattle.kernel_steps.specs.Named.{IsInference}
use Rattle.kernel_steps.specs.Split.{has_number}
use Rattle.kernel_steps.specs.declared.key.Key.{Key}
use Rattle.kernel_steps.specs.declared.key.Key.TheVariants.{Para, Refl, Factor, Replaced}
use Rattle.literal_selection.specs.Mode.{mode_of}
use Rattle.kernel_steps.proofs.AboutSplits.SplitTables.{has-left}
use Rattle.laws_calculus.specs.Lifting.{among}
use Rattle.pool_history.specs.Record.{Registered, Death, GivenJob, has_died}
use Rattle.pool_history.specs.Counting.{keys_of}
use Rattle.pool_history.specs.Outcomes.{premises}
use Rattle.pool_history.specs.Batches.{is_told, told_before, is_to_meet, MeetsAll}
use Rattle.pool_history.specs.declared.options.Options.{Options}
use Rattle.pool_history.specs.declared.batch.Entry.{Entry}
use Rattle.pool_history.proofs.AboutCounting.CountedRecords.{Lookup, number-passes, front, front-taken, front-longer, front-filter, has-kept}
use Rattle.pool_history.proofs.AboutRecords.GrowthLemmas.{has_died-less}
use Rattle.pool_history.proofs.AboutRecords.EditLemmas.{eq-sym}
use Rattle.pool_history.proofs.AboutLines.JoinedLemmas.{BehindAt, get-cases}
use Rattle.pool_history.proofs.AboutRecords.PlaceLemmas.{has-first}
use Rattle.laws_saturation.proofs.AboutCarried.CarriedLemmas.{alive}

-- ---- what stands before a number

-- a number that isn't the first is one of the others
behind : (n k : ℕ) (ks : List ℕ) → has_number n (k ∷ ks) ≡ true → (k == n) ≡ false → has_number n ks ≡ true
behind n k ks there other =
    ⊎_elim (λ (here : (n == k) ≡ true). absurd (true≢false (sym here ∙ (eq-sym n k ∙ other)))) (λ (later : has_number n ks ≡ true). later)
    (or_cases (n == k) (has_number n ks) there)

-- what stands before a number is there
front-there : (n m : ℕ) (ks : List ℕ) → has_number n (front m ks) ≡ true → has_number n ks ≡ true
front-there n m [] there = there
front-there n m (k ∷ ks) there = by (k == m) there (front-there n m ks)
  where
    by : (b : Bool) → has_number n (cond b [] (k ∷ front m ks)) ≡ true → (has_number n (front m ks) ≡ true → has_number n ks ≡ true) → has_number n (k ∷ ks) ≡ true
    by true h rest = absurd (true≢false (sym h))
    by false h rest =
        ⊎_elim (λ (here : (n == k) ≡ true). or_left (n == k) (has_number n ks) here)
        (λ (later : has_number n (front m ks) ≡ true). or_right (n == k) (has_number n ks) (rest later)) (or_cases (n == k) (has_number n (front m ks)) h)

-- of two numbers that are there one stands before the other, or they are one
abbrev pub InOrder : ℕ → ℕ → List ℕ → Type 0
InOrder n m ks = ((n == m) ≡ true) ⊎ ((has_number n (front m ks) ≡ true) ⊎ (has_number m (front n ks) ≡ true))

pub in-order : (n m : ℕ) (ks : List ℕ) → has_number n ks ≡ true → has_number m ks ≡ true → InOrder n m ks
in-order n m [] first second = absurd (true≢false (sym first))
in-order n m (k ∷ ks) first second = by (k == m) (k == n) refl refl (in-order n m ks)
  where
    by :
        (b c : Bool) → (k == m) ≡ b → (k == n) ≡ c → (has_number n ks ≡ true → has_number m ks ≡ true → InOrder n m ks)
        → ((n == m) ≡ true) ⊎ ((has_number n (cond b [] (k ∷ front m ks)) ≡ true) ⊎ (has_number m (cond c [] (k ∷ front n ks)) ≡ true))
    by true true is_m is_n rest = inl (eq-eqb n m (sym (eqb-true k n is_n) ∙ eqb-true k m is_m))
    by true false is_m is_n rest = inr (inr (or_left (m == k) (has_number m (front n ks)) (eq-sym m k ∙ is_m)))
    by false true is_m is_n rest = inr (inl (or_left (n == k) (has_number n (front m ks)) (eq-sym n k ∙ is_n)))
    by false false is_m is_n rest =
        ⊎_elim (λ (same : (n == m) ≡ true). inl same)
        (λ (apart : (has_number n (front m ks) ≡ true) ⊎ (has_number m (front n ks) ≡ true)).
        ⊎_elim (λ (before : has_number n (front m ks) ≡ true). inr (inl (or_right (n == k) (has_number n (front m ks)) before)))
        (λ (after : has_number m (front n ks) ≡ true). inr (inr (or_right (m == k) (has_number m (front n ks)) after))) apart)
        (rest (behind n k ks first is_n) (behind m k ks second is_m))

-- what stands before a number has a lower position
pub front-lower : (n m : ℕ) (ks : List ℕ) → has_number n (front m ks) ≡ true → position_or_len (λ k. n == k) ks ≤ position_or_len (λ k. m == k) ks
front-lower n m [] there = absurd (true≢false (sym there))
front-lower n m (k ∷ ks) there = by (k == m) (n == k) (m == k) refl refl (eq-sym m k) there (front-lower n m ks)
  where
    by :
        (b c d : Bool) → (k == m) ≡ b → (n == k) ≡ c → d ≡ b → has_number n (cond b [] (k ∷ front m ks)) ≡ true
        → (has_number n (front m ks) ≡ true → position_or_len (λ i. n == i) ks ≤ position_or_len (λ i. m == i) ks)
        → cond (not c) (1 + position_or_len (λ i. n == i) ks) 0 ≤ cond (not d) (1 + position_or_len (λ i. m == i) ks) 0
    by true c d is_m is_n same h rest = absurd (true≢false (sym h))
    by false true d is_m is_n same h rest = omega arith
    by false false true is_m is_n same h rest = absurd (true≢false same)
    by false false false is_m is_n same h rest =
        let low = rest (behind n k (front m ks) h (eq-sym k n ∙ is_n)) in omega (arith, low)

-- what each number of a list passes, the list does
pub all-numbered : (p : ℕ → Bool) (ks : List ℕ) → ((n : ℕ) → has_number n ks ≡ true → p n ≡ true) → list_all p ks ≡ true
all-numbered p [] each = refl
all-numbered p (k ∷ ks) each =
    and_from (p k) (list_all p ks) (each k (has-first k ks)) (all-numbered p ks (λ n there. each n (or_right (n == k) (has_number n ks) there)))

-- ---- deaths

abbrev pub none_died : List Death → List ℕ → Bool
none_died deaths ns = list_all (λ n. not (has_died deaths n)) ns

-- those that didn't die
pub undead : (deaths : List Death) (ns : List ℕ) (n : ℕ) → has_number n ns ≡ true → none_died deaths ns ≡ true → has_died deaths n ≡ false
undead deaths ns n there none = not-true (has_died deaths n) (number-passes (λ k. not (has_died deaths k)) n ns there none)

-- ---- what jobs are told

-- A job was told its clause, and each clause before it, while they live; and the inferences that were left and those counted reach the limit.
pub record IsToldRight (limit : ℕ) (positions : List ℕ) (deaths : List Death) (counted : List Key) (j : GivenJob) : Type 0 where
  pub placed : has_number j.number positions ≡ true
  pub itself : has_died deaths j.number ≡ false → has_number j.number j.told ≡ true
  pub others :
      has_died deaths j.number ≡ false
      → (m : ℕ) → has_number m (front j.number positions) ≡ true → has_died deaths m ≡ false → has_number m (front j.number j.told) ≡ true
  pub enough : limit ≤ j.left + length counted

pub told-later :
    (limit : ℕ) (positions more : List ℕ) (deaths later : List Death) (counted keys : List Key) (j : GivenJob)
    → IsToldRight limit positions deaths counted j → IsToldRight limit (positions ++ more) (deaths ++ later) (counted ++ keys) j
told-later limit positions more deaths later counted keys j is = record {
  placed = has-left j.number positions more is.placed;
  itself = λ lives. is.itself (has_died-less deaths later j.number lives);
  others = λ lives m before m_lives.
      is.others (has_died-less deaths later j.number lives) m
      (ap (has_number m) (sym (front-longer j.number positions more is.placed)) ∙ before) (has_died-less deaths later m m_lives);
  enough = let count = length-append counted keys in let reach = is.enough in omega (arith, count, reach);
}

-- a job that is told what is told now
pub told-now :
    (limit : ℕ) (registered : List Registered) (positions : List ℕ) (deaths : List Death) (counted : List Key) (j : GivenJob)
    → has_number j.number positions ≡ true → list_all (λ n. nat_lt n (length registered)) positions ≡ true
    → j.told ≡ filter (alive registered deaths) positions → limit ≤ j.left + length counted
    → IsToldRight limit positions deaths counted j
told-now limit registered positions deaths counted j there within tells enough = record {
  placed = there;
  itself = λ lives. ap (has_number j.number) tells ∙ has-kept p j.number positions (is_alive j.number there lives) there;
  others = λ lives m before m_lives.
      ap (λ ks. has_number m (front j.number ks)) tells
      ∙ ap (has_number m) (front-filter p j.number positions (is_alive j.number there lives))
      ∙ has-kept p m (front j.number positions) (is_alive m (front-there m j.number positions before) m_lives) before;
  enough = enough;
}
  where
    p : ℕ → Bool
    p = alive registered deaths

    is_alive : (n : ℕ) → has_number n positions ≡ true → has_died deaths n ≡ false → alive registered deaths n ≡ true
    is_alive n is_there lives =
        and_from (nat_lt n (length registered)) (not (has_died deaths n)) (number-passes (λ k. nat_lt k (length registered)) n positions is_there within)
        (not_from_false (has_died deaths n) lives)

-- ---- inferences of fewer clauses

module _ (is_predicate : ℕ → Bool) (mode : SelectionMode) (many few : ℕ → Option TreeClause) where
  pub inference-less :
      (key : Key) (c : TreeClause) → ((n : ℕ) (d : TreeClause) → has_number n (premises key) ≡ true → many n ≡ Some d → few n ≡ Some d)
      → IsInference is_predicate mode many key c → IsInference is_predicate mode few key c
  inference-less (Para first i s second j z place) c less is = record {
    first_clause = is.first_clause;
    first_there = less first is.first_clause (has-first first (second ∷ [])) is.first_there;
    second_clause = is.second_clause;
    second_there = less second is.second_clause (or_right (second == first) (has_number second (second ∷ [])) (has-first second [])) is.second_there;
    infers = is.infers;
  }
  inference-less (Refl n i) c less is = record { clause = is.clause; there = less n is.clause (has-first n []) is.there; infers = is.infers }
  inference-less (Factor n i s j z) c less is = record { clause = is.clause; there = less n is.clause (has-first n []) is.there; infers = is.infers }
  inference-less (Replaced n) c less is = is

lookup-less :
    (registered more : List Registered) (n : ℕ) (c : TreeClause)
    → nat_lt n (length registered) ≡ true → Lookup (registered ++ more) n ≡ Some c → Lookup registered n ≡ Some c
lookup-less registered more n c below there =
    option_map-some (λ (x : Registered). x.clause) (slice_get (registered ++ more) n) c there λ x x_is gives.
    ⊎_elim
    (λ (before : slice_get registered n ≡ Some x). ap (λ (o : Option Registered). option_map (λ (y : Registered). y.clause) o) before ∙ ap Some gives)
    (λ (at : BehindAt registered more n x).
    let less : n < length registered = ltb-true n (length registered) below in let whole = at.whole in absurd (omega (arith, less, whole)))
    (get-cases registered more n x x_is)

-- ---- clauses that met

-- the last of the premises, with the others of lower positions
abbrev pub meets : List ℕ → ℕ → Key → Bool
meets positions last key = has_number last (premises key) && list_all (λ n. (n == last) || has_number n (front last positions)) (premises key)

-- so each premise has a position
meets-placed : (positions : List ℕ) (last : ℕ) (key : Key) → has_number last positions ≡ true → meets positions last key ≡ true → (n : ℕ) → has_number n (premises key) ≡ true → has_number n positions ≡ true
meets-placed positions last key placed is n there =
    ⊎_elim
    (λ (same : (n == last) ≡ true). ap (λ k. has_number k positions) (eqb-true n last same) ∙ placed)
    (λ (before : has_number n (front last positions) ≡ true). front-there n last positions before)
    (or_cases (n == last) (has_number n (front last positions))
    (number-passes (λ k. (k == last) || has_number k (front last positions)) n (premises key) there
    (and_parts (has_number last (premises key)) (list_all (λ k. (k == last) || has_number k (front last positions)) (premises key)) is).1))

module _ (is_predicate : ℕ → Bool) (mode : SelectionMode) where
  -- what a clause met satisfies the predicate
  abbrev pub Meets : List Registered → List ℕ → List Death → ℕ → (Key → Type 0) → Type 0
  Meets registered positions deaths last Found =
      (key : Key) (c : TreeClause)
      → meets positions last key ≡ true → none_died deaths (premises key) ≡ true → IsInference is_predicate mode (Lookup registered) key c
      → Found key

  pub record HaveMet (registered : List Registered) (positions active : List ℕ) (deaths : List Death) (Found : ℕ → Key → Type 0) : Type 0 where
    pub placed : list_all (λ n. has_number n positions) active ≡ true
    pub met : (last : ℕ) → has_number last active ≡ true → Meets registered positions deaths last (Found last)

  meets-later :
      (registered more : List Registered) (positions further : List ℕ) (deaths later : List Death) (last : ℕ) (Few Many : Key → Type 0)
      → ((key : Key) → Few key → Many key)
      → list_all (λ n. nat_lt n (length registered)) positions ≡ true → has_number last positions ≡ true
      → Meets registered positions deaths last Few
      → Meets (registered ++ more) (positions ++ further) (deaths ++ later) last Many
  meets-later registered more positions further deaths later last Few Many grows within placed before key c is lives inferred =
      let is_met : meets positions last key ≡ true =
      ap (λ ks. has_number last (premises key) && list_all (λ n. (n == last) || has_number n ks) (premises key)) (sym (front-longer last positions further placed)) ∙ is in
      grows key
      (before key c is_met
      (all-numbered (λ n. not (has_died deaths n)) (premises key)
      (λ n there. not_from_false (has_died deaths n) (has_died-less deaths later n (undead (deaths ++ later) (premises key) n there lives))))
      (inference-less is_predicate mode (Lookup (registered ++ more)) (Lookup registered) key c
      (λ n d there found.
      lookup-less registered more n d
      (number-passes (λ k. nat_lt k (length registered)) n positions (meets-placed positions last key placed is_met n there) within) found)
      inferred))

  pub met-later :
      (registered more : List Registered) (positions further active : List ℕ) (deaths later : List Death) (Few Many : ℕ → Key → Type 0)
      → ((last : ℕ) (key : Key) → Few last key → Many last key)
      → list_all (λ n. nat_lt n (length registered)) positions ≡ true
      → HaveMet registered positions active deaths Few
      → HaveMet (registered ++ more) (positions ++ further) active (deaths ++ later) Many
  met-later registered more positions further active deaths later Few Many grows within met = record {
    placed =
        all-numbered (λ n. has_number n (positions ++ further)) active
        (λ n there. has-left n positions further (number-passes (λ k. has_number k positions) n active there met.placed));
    met = λ last there.
        meets-later registered more positions further deaths later last (Few last) (Many last) (grows last) within
        (number-passes (λ k. has_number k positions) last active there met.placed) (met.met last there);
  }

  -- one more clause whose job is done
  pub met-more :
      (registered : List Registered) (positions active : List ℕ) (deaths : List Death) (n : ℕ) (Few Many : ℕ → Key → Type 0)
      → ((last : ℕ) (key : Key) → Few last key → Many last key)
      → has_number n positions ≡ true → Meets registered positions deaths n (Many n)
      → HaveMet registered positions active deaths Few
      → HaveMet registered positions (active ++ n ∷ []) deaths Many
  met-more registered positions active deaths n Few Many grows there new met = record {
    placed =
        list_all-joined (λ k. has_number k positions) active (n ∷ []) met.placed (and_from (has_number n positions) true there refl);
    met = λ last last_in key c is lives inferred.
        ⊎_elim
        (λ (old : has_number last active ≡ true). grows last key (met.met last old key c is lives inferred))
        (λ (late : has_number last (n ∷ []) ≡ true).
        ⊎_elim
        (λ (same : (last == n) ≡ true).
        let is_n : last ≡ n = eqb-true last n same in
        subst (λ k. Many k key) (sym is_n) (new key c (ap (λ k. meets positions k key) (sym is_n) ∙ is) lives inferred))
        (λ (none : false ≡ true). absurd (true≢false (sym none)))
        (or_cases (last == n) false late))
        (or_cases (has_number last active) (has_number last (n ∷ [])) (sym (list_any-append (λ k. last == k) active (n ∷ [])) ∙ last_in));
  }

-- ---- a job that meets all

module _ (is_predicate : ℕ → Bool) (options : Options) where
  pub job-meets :
      (limit : ℕ) (registered : List Registered) (positions : List ℕ) (deaths : List Death) (counted : List Key) (j : GivenJob) (entries : List Entry)
      → has_died deaths j.number ≡ false → IsToldRight limit positions deaths counted j
      → MeetsAll is_predicate options (Lookup registered) j entries
      → Meets is_predicate (mode_of options.select) registered positions deaths j.number (λ key. In key (keys_of entries))
  job-meets limit registered positions deaths counted j entries lives told all key c is none inferred =
      contains-In key (keys_of entries) (all key c to_meet
      (inference-less is_predicate (mode_of options.select) (Lookup registered) (among (is_told j) (Lookup registered)) key c
      (λ n d there found. cond-true (is_told j n) (Lookup registered n) None (is_told_to n there) ∙ found) inferred))
    where
      parts : (has_number j.number (premises key) ≡ true) × (list_all (λ n. (n == j.number) || has_number n (front j.number positions)) (premises key) ≡ true)
      parts = and_parts (has_number j.number (premises key)) (list_all (λ n. (n == j.number) || has_number n (front j.number positions)) (premises key)) is

      -- a premise is the given clause, or was told before it
      stands : (n : ℕ) → has_number n (premises key) ≡ true → ((n == j.number) ≡ true) ⊎ (has_number n (front j.number j.told) ≡ true)
      stands n there =
          ⊎_elim
          (λ (same : (n == j.number) ≡ true). inl same)
          (λ (before : has_number n (front j.number positions) ≡ true). inr (told.others lives n before (undead deaths (premises key) n there none)))
          (or_cases (n == j.number) (has_number n (front j.number positions))
          (number-passes (λ k. (k == j.number) || has_number k (front j.number positions)) n (premises key) there parts.1))

      is_told_to : (n : ℕ) → has_number n (premises key) ≡ true → is_told j n ≡ true
      is_told_to n there =
          ⊎_elim
          (λ (same : (n == j.number) ≡ true). ap (is_told j) (eqb-true n j.number same) ∙ told.itself lives)
          (λ (before : has_number n (front j.number j.told) ≡ true). front-there n j.number j.told before)
          (stands n there)

      to_meet : is_to_meet is_predicate options (Lookup registered) j key ≡ true
      to_meet =
          and_from (has_number j.number (premises key)) (list_all (λ n. (n == j.number) || has_number n (told_before j)) (premises key)) parts.0
          (all-numbered (λ n. (n == j.number) || has_number n (told_before j)) (premises key)
          (λ n there.
          ⊎_elim
          (λ (same : (n == j.number) ≡ true). or_left (n == j.number) (has_number n (told_before j)) same)
          (λ (before : has_number n (front j.number j.told) ≡ true).
          or_right (n == j.number) (has_number n (told_before j)) (ap (has_number n) (front-taken j.number j.told) ∙ before))
          (stands n there)))
