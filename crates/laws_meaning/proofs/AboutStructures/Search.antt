-- Searches over the values below a size: for a least value that passes a test, and through all values of some variables.
use Rattle.std.proofs.Common.{◌≡◌, ℕ, ◌<◌, ◌==◌, Bool, true, false, ◌||◌, List, [], ◌∷◌, map, if◌then◌else◌, refl, ap, sym, ◌∙◌}
use Rattle.std.specs.List.{AllByRecursion, list_any, list_all}
use Rattle.std.proofs.lemmas.Bool.{or_parts, eqb-true, true≢false, cond_both}
use Rattle.fol_base.specs.Canonical.{numbers_from}
use Rattle.fol_base.specs.Interpretation.{Assignment}
use Rattle.signature.specs.Clausal.{made_in_order}
use Rattle.laws_meaning.proofs.AboutStructures.ListLemmas.{is_listed, each-weaker, all-each, each-all, each-listed, numbers-below, numbers-listed, listed-itself, listed-filtered}

-- ---- the least value

-- the first number of a list that passes a test, 0 where none does
abbrev pub first_passing : List ℕ → (ℕ → Bool) → ℕ
first_passing [] test = 0
first_passing (a ∷ more) test = if test a then a else first_passing more test

pub first-passes : (more : List ℕ) (test : ℕ → Bool) → list_any test more ≡ true → test (first_passing more test) ≡ true
first-passes [] test h = absurd (true≢false (sym h))
first-passes (a ∷ more) test h = by (test a) refl (first-passes more test) h
  where
    by :
        (b : Bool) → test a ≡ b → (list_any test more ≡ true → test (first_passing more test) ≡ true)
        → (b || list_any test more) ≡ true → test (if b then a else first_passing more test) ≡ true
    by true e rest g = e
    by false e rest g = rest g

pub first-below : (size : ℕ) (more : List ℕ) (test : ℕ → Bool) → 0 < size → AllByRecursion (λ a. a < size) more → first_passing more test < size
first-below size [] test some h = some
first-below size (a ∷ more) test some h = by (test a) (first-below size more test some h.1)
  where
    by : (b : Bool) → first_passing more test < size → (if b then a else first_passing more test) < size
    by true rest = h.0
    by false rest = rest

-- ---- all values of variables

abbrev pub HasSize : ℕ → Assignment → Type 0
HasSize size ρ = (v : ℕ) → ρ v < size

-- another value for one variable
abbrev pub changed : Assignment → ℕ → ℕ → Assignment
changed ρ v a u = if u == v then a else ρ u

abbrev pub all_values : ℕ → List ℕ → (Assignment → Bool) → Assignment → Bool
all_values size [] test ρ = test ρ
all_values size (v ∷ vs) test ρ = list_all (λ a. all_values size vs test (changed ρ v a)) (numbers_from 0 size)

-- an assignment that passes, has the wanted values at some variables, and keeps those that were there
pub record Reached (test : Assignment → Bool) (vs : List ℕ) (start wanted : Assignment) : Type 0 where
  pub reached : Assignment
  pub passes : test reached ≡ true
  pub listed : (u : ℕ) → is_listed vs u ≡ true → reached u ≡ wanted u
  pub kept : (u : ℕ) → start u ≡ wanted u → reached u ≡ wanted u

pub all_values-reach :
    (size : ℕ) (vs : List ℕ) (test : Assignment → Bool) (start wanted : Assignment)
    → HasSize size wanted → all_values size vs test start ≡ true → Reached test vs start wanted
all_values-reach size [] test start wanted has h =
    record { reached = start; passes = h; listed = λ u l. absurd (true≢false (sym l)); kept = λ u e. e }
all_values-reach size (v ∷ vs) test start wanted has h =
    let each = all-each (λ a. all_values size vs test (changed start v a)) (numbers_from 0 size) h in
    let there =
    each-listed (λ a. all_values size vs test (changed start v a) ≡ true) (numbers_from 0 size) (wanted v) each
    (numbers-listed size (wanted v) (has v)) in
    let r = all_values-reach size vs test (changed start v (wanted v)) wanted has there in
    record {
      reached = r.reached;
      passes = r.passes;
      listed = λ u l. either u (u == v) refl r l;
      kept = λ u e. r.kept u (after u (u == v) refl e);
    }
  where
    after : (u : ℕ) (b : Bool) → (u == v) ≡ b → start u ≡ wanted u → (if b then wanted v else start u) ≡ wanted u
    after u true e k = ap wanted (sym (eqb-true u v e))
    after u false e k = k

    either :
        (u : ℕ) (b : Bool) → (u == v) ≡ b → (r : Reached test vs (changed start v (wanted v)) wanted)
        → (b || is_listed vs u) ≡ true → r.reached u ≡ wanted u
    either u true e r l =
        r.kept u (ap (λ t. if t then wanted v else start u) e ∙ ap wanted (sym (eqb-true u v e)))
    either u false e r l = r.listed u l

pub all_values-pass :
    (size : ℕ) (vs : List ℕ) (test : Assignment → Bool) (start : Assignment)
    → HasSize size start
    → ((τ : Assignment) → HasSize size τ → ((u : ℕ) → is_listed vs u ≡ false → τ u ≡ start u) → test τ ≡ true)
    → all_values size vs test start ≡ true
all_values-pass size [] test start has h = h start has (λ u l. refl)
all_values-pass size (v ∷ vs) test start has h =
    each-all (λ a. all_values size vs test (changed start v a)) (numbers_from 0 size)
    (each-weaker (λ a. a < size) (λ a. all_values size vs test (changed start v a) ≡ true)
    (λ a below.
    all_values-pass size vs test (changed start v a) (within a below)
    (λ τ has_τ same. h τ has_τ (λ u l. let parts = or_parts (u == v) (is_listed vs u) l in same u parts.1 ∙ ap (λ t. if t then a else start u) parts.0)))
    (numbers_from 0 size) (numbers-below size))
  where
    within : (a : ℕ) → a < size → HasSize size (changed start v a)
    within a below u = cond_both (u == v) a (start u) (λ w. w < size) (λ e. below) (λ e. has u)

-- ---- an assignment from the values of some variables

abbrev pub assigned : List ℕ → List ℕ → Assignment
assigned [] given u = 0
assigned (v ∷ vs) [] u = 0
assigned (v ∷ vs) (a ∷ given) u = if u == v then a else assigned vs given u

assigned-at : (vs : List ℕ) (ρ : Assignment) (u : ℕ) → is_listed vs u ≡ true → assigned vs (map ρ vs) u ≡ ρ u
assigned-at [] ρ u l = absurd (true≢false (sym l))
assigned-at (v ∷ vs) ρ u l = by (u == v) refl (assigned-at vs ρ u) l
  where
    by :
        (b : Bool) → (u == v) ≡ b → (is_listed vs u ≡ true → assigned vs (map ρ vs) u ≡ ρ u) → (b || is_listed vs u) ≡ true
        → (if b then ρ v else assigned vs (map ρ vs) u) ≡ ρ u
    by true e rest k = ap ρ (sym (eqb-true u v e))
    by false e rest k = rest k

pub assigned-within : (size : ℕ) (vs : List ℕ) (ρ : Assignment) → 0 < size → HasSize size ρ → HasSize size (assigned vs (map ρ vs))
assigned-within size [] ρ some has u = some
assigned-within size (v ∷ vs) ρ some has u =
    cond_both (u == v) (ρ v) (assigned vs (map ρ vs) u) (λ w. w < size) (λ e. has v) (λ e. assigned-within size vs ρ some has u)

-- the values at those of the occurring variables that were made before a number
pub assigned-in_order :
    (n : ℕ) (occurring : List ℕ) (ρ : Assignment)
    → AllByRecursion (λ v. v < n → assigned (made_in_order n occurring) (map ρ (made_in_order n occurring)) v ≡ ρ v) occurring
assigned-in_order n occurring ρ =
    each-weaker (λ v. is_listed occurring v ≡ true)
    (λ v. v < n → assigned (made_in_order n occurring) (map ρ (made_in_order n occurring)) v ≡ ρ v)
    (λ v there below.
    assigned-at (made_in_order n occurring) ρ v
    (listed-filtered (is_listed occurring) (numbers_from 0 n) v there (numbers-listed n v below)))
    occurring (listed-itself occurring)
