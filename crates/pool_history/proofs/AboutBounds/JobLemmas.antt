-- The numbers of the jobs that are out rise, so each is of one job.
use Rattle.std.proofs.Common.{◌≡◌, ℕ, ◌<◌, ◌≤◌, Bool, true, false, not, ◌==◌, List, [], ◌∷◌, ◌++◌, map, refl, ap, sym, ◌∙◌, subst, arith}
use Rattle.std.specs.Prelude.{Some, cond, find, filter}
use Rattle.std.specs.List.{list_any}
use Rattle.std.proofs.lemmas.Bool.{or_parts, or_from, eqb-true, ne_eqb, true≢false}
use Rattle.std.proofs.lemmas.Option.{same_Some}
use Rattle.pool_history.specs.Record.{GivenJob, without_job}

-- the numbers rise, above the first number and up to the second
abbrev pub Rising : ℕ → ℕ → List GivenJob → Type 0
Rising low high [] = low ≤ high
Rising low high (j ∷ js) = (low < j.job) × Rising j.job high js

pub rising-bound : (low high : ℕ) (js : List GivenJob) → Rising low high js → low ≤ high
rising-bound low high [] rise = rise
rising-bound low high (j ∷ js) rise = omega (arith, rise.0, rising-bound j.job high js rise.1)

rising-from : (low lower high : ℕ) (js : List GivenJob) → lower ≤ low → Rising low high js → Rising lower high js
rising-from low lower high [] less rise = omega (arith, rise)
rising-from low lower high (j ∷ js) less rise = (omega (arith, rise.0), rise.1)

pub rising-high : (low high higher : ℕ) (js : List GivenJob) → high ≤ higher → Rising low high js → Rising low higher js
rising-high low high higher [] more rise = omega (arith, rise)
rising-high low high higher (j ∷ js) more rise = (rise.0, rising-high j.job high higher js more rise.1)

pub rising-filter : (keep : GivenJob → Bool) (low high : ℕ) (js : List GivenJob) → Rising low high js → Rising low high (filter keep js)
rising-filter keep low high [] rise = rise
rising-filter keep low high (j ∷ js) rise = by (keep j) (rising-filter keep j.job high js rise.1)
  where
    by : (b : Bool) → Rising j.job high (filter keep js) → Rising low high (cond b (j ∷ filter keep js) (filter keep js))
    by true rest = (rise.0, rest)
    by false rest = rising-from j.job low high (filter keep js) (omega (arith, rise.0)) rest

pub rising-end : (low high : ℕ) (js : List GivenJob) (j : GivenJob) → Rising low high js → high < j.job → Rising low j.job (js ++ j ∷ [])
rising-end low high [] j rise above = (omega (arith, rise, above), omega arith)
rising-end low high (k ∷ ks) j rise above = (rise.0, rising-end k.job high ks j rise.1 above)

pub rising-map : (f : GivenJob → GivenJob) → ((j : GivenJob) → (f j).job ≡ j.job) → (low high : ℕ) (js : List GivenJob) → Rising low high js → Rising low high (map f js)
rising-map f same low high [] rise = rise
rising-map f same low high (j ∷ js) rise =
    (subst (λ n. low < n) (sym (same j)) rise.0, subst (λ n. Rising n high (map f js)) (sym (same j)) (rising-map f same j.job high js rise.1))

-- no job has a number that isn't above
pub none-removed : (job low high : ℕ) (js : List GivenJob) → job ≤ low → Rising low high js → without_job job js ≡ js
none-removed job low high [] below rise = refl
none-removed job low high (j ∷ js) below rise =
    by (j.job == job) (ne_eqb j.job job (λ e. absurd (omega (arith, e, below, rise.0))))
    (none-removed job j.job high js (omega (arith, below, rise.0)) rise.1)
  where
    by : (b : Bool) → b ≡ false → without_job job js ≡ js → cond (not b) (j ∷ without_job job js) (without_job job js) ≡ j ∷ js
    by true is rest = absurd (true≢false is)
    by false is rest = ap (λ ks. j ∷ ks) rest

-- A clause that is in no other job's hand than that of a job is in no hand, if it isn't that job's.
pub only-of-the-job :
    (job n low high : ℕ) (js : List GivenJob) (j : GivenJob)
    → Rising low high js → find (λ (k : GivenJob). k.job == job) js ≡ Some j → (n == j.number) ≡ false
    → list_any (λ (k : GivenJob). n == k.number) (without_job job js) ≡ false
    → list_any (λ (k : GivenJob). n == k.number) js ≡ false
only-of-the-job job n low high [] j rise found other none = refl
only-of-the-job job n low high (k ∷ ks) j rise found other none =
    by (k.job == job) refl (λ found none. only-of-the-job job n k.job high ks j rise.1 found other none) found none
  where
    by :
        (b : Bool) → (k.job == job) ≡ b
        → (find (λ (k : GivenJob). k.job == job) ks ≡ Some j
        → list_any (λ (k : GivenJob). n == k.number) (without_job job ks) ≡ false → list_any (λ (k : GivenJob). n == k.number) ks ≡ false)
        → cond b (Some k) (find (λ (k : GivenJob). k.job == job) ks) ≡ Some j
        → list_any (λ (k : GivenJob). n == k.number) (cond (not b) (k ∷ without_job job ks) (without_job job ks)) ≡ false
        → list_any (λ (k : GivenJob). n == k.number) (k ∷ ks) ≡ false
    by true is rest found none =
        or_from (n == k.number) (list_any (λ (k : GivenJob). n == k.number) ks)
        (ap (λ (i : GivenJob). n == i.number) (same_Some k j found) ∙ other)
        (ap (list_any (λ (k : GivenJob). n == k.number)) (sym (none-removed job k.job high ks (let e : k.job ≡ job = eqb-true k.job job is in omega (arith, e)) rise.1)) ∙ none)
    by false is rest found none =
        let parts = or_parts (n == k.number) (list_any (λ (k : GivenJob). n == k.number) (without_job job ks)) none in
        or_from (n == k.number) (list_any (λ (k : GivenJob). n == k.number) ks) parts.0
        (rest found parts.1)
