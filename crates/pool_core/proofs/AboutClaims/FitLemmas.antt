-- The positions of a pool and its jobs that are out are fewer than 2^32.
use Rattle.std.proofs.Common.{◌≡◌, ℕ, ◌^◌, ◌<◌, ◌≤◌, true, false, ◌==◌, List, [], ◌∷◌, map, length, ap, sym, ⊎_elim, arith}
use Rattle.std.specs.List.{list_any, AllByRecursion, IsDistinct}
use Rattle.std.proofs.lemmas.Bool.{true≢false, or_parts, or_cases, eqb-true}
use Rattle.std.proofs.lemmas.List.{length-map}
use Rattle.std.proofs.lemmas.Map.Steps.{length-le_from_distinct_below}
use Rattle.pool_history.specs.Record.{PoolRecord, GivenJob}
use Rattle.pool_core.specs.KeptEvents.{events_of}
use Rattle.pool_core.specs.State.{origin_of, IsPool}
use Rattle.pool_core.specs.declared.pool.Pool.TheInside.{Inside}
use Rattle.pool_history.proofs.AboutClaims.HandLemmas.{Apart, hands-of}
use Rattle.pool_history.proofs.AboutRecords.NumberLemmas.{numbers_fit}
use Rattle.pool_core.proofs.AboutClaims.StateLemmas.{record_of, given-count}

-- jobs of different registered clauses
abbrev numbers : List GivenJob → List ℕ
numbers js = map (λ (j : GivenJob). j.number) js

apart-distinct : (js : List GivenJob) → Apart js → IsDistinct ◌==◌ (numbers js)
unfolding IsDistinct
apart-distinct [] apart = tt
apart-distinct (j ∷ js) apart = (others js apart.0, apart-distinct js apart.1)
  where
    others : (ks : List GivenJob) → list_any (λ (k : GivenJob). j.number == k.number) ks ≡ false → AllByRecursion (λ n. (j.number == n) ≡ false) (numbers ks)
    others [] none = tt
    others (k ∷ ks) none =
        let parts = or_parts (j.number == k.number) (list_any (λ (i : GivenJob). j.number == i.number) ks) none in (parts.0, others ks parts.1)

number-below : (count : ℕ) (js : List GivenJob) (n : ℕ) → AllByRecursion (λ (j : GivenJob). j.number < count) js → list_any (λ m. n == m) (numbers js) ≡ true → n < count
number-below count [] n known there = absurd (true≢false (sym there))
number-below count (j ∷ js) n known there =
    ⊎_elim (λ (here : (n == j.number) ≡ true). let same : n ≡ j.number = eqb-true n j.number here in let below : j.number < count = known.0 in omega (arith, same, below))
    (λ (later : list_any (λ m. n == m) (numbers js) ≡ true). number-below count js n known.1 later)
    (or_cases (n == j.number) (list_any (λ m. n == m) (numbers js)) there)

few-jobs : (count : ℕ) (js : List GivenJob) → Apart js → AllByRecursion (λ (j : GivenJob). j.number < count) js → length js ≤ count
few-jobs count js apart known =
    let few : length (numbers js) ≤ count = length-le_from_distinct_below (numbers js) count (apart-distinct js apart) (λ n there. number-below count js n known there) in
    let same : length (numbers js) ≡ length js = length-map js (λ (j : GivenJob). j.number) in
    omega (arith, few, same)

module _ (a : Inside) (is : IsPool a) where
  abbrev r : PoolRecord
  r = record_of a

  pub registered-fit : (length r.registered < 2 ^ 32) × (length r.positions ≤ length r.registered)
  registered-fit =
      let forms = is.inputs.well_formed in
      numbers_fit forms.usage (origin_of a) (events_of a.history) is.inputs is.limit forms.used (is.lawful forms.usage forms.used)

  pub positions-fit : length a.positions.items < 2 ^ 32
  positions-fit =
      let same : length a.positions.items ≡ length r.positions = ap length is.state.positions in
      let few = registered-fit.0 in
      let below = registered-fit.1 in
      omega (arith, same, few, below)

  pub jobs-fit : length a.jobs.entries < 2 ^ 32
  jobs-fit =
      let usage = is.inputs.well_formed in
      let hands = hands-of usage.usage.is_predicate (origin_of a) (events_of a.history) (is.lawful usage.usage usage.used) in
      let same : length a.jobs.entries ≡ length r.given = given-count a r is.state in
      let below : length r.given ≤ length r.registered = few-jobs (length r.registered) r.given hands.apart hands.known in
      let few = registered-fit.0 in
      omega (arith, same, few, below)
