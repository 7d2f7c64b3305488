-- How many of the first clauses wait, and which of them is picked.
use Rattle.std.proofs.Common.{◌≡◌, ℕ, zero, suc, ◌+◌, ◌<◌, ◌≤◌, Bool, true, false, List, [], ◌∷◌, refl, ap, sym, ◌∙◌, ⊎_elim, arith}
use Rattle.std.specs.Prelude.{Option, None, Some, cond, filter}
use Rattle.std.specs.List.{range_with_len}
use Rattle.std.proofs.lemmas.Bool.{true≢false, cases_eq}

-- how many numbers below a bound pass
abbrev pub passing : (ℕ → Bool) → ℕ → ℕ
passing p zero = 0
passing p (suc n) = cond (p n) 1 0 + passing p n

pub passing-bound : (p : ℕ → Bool) (n : ℕ) → passing p n ≤ n
passing-bound p zero = omega arith
passing-bound p (suc n) = by (p n) (passing-bound p n)
  where
    by : (b : Bool) → passing p n ≤ n → cond b 1 0 + passing p n ≤ suc n
    by true rest = omega (arith, rest)
    by false rest = omega (arith, rest)

-- a number that passes counts
pub passing-some : (p : ℕ → Bool) (n k : ℕ) → k < n → p k ≡ true → 1 ≤ passing p n
passing-some p zero k below is = absurd (omega (arith, below))
passing-some p (suc n) k below is = ⊎_elim here (later (λ smaller. passing-some p n k smaller is)) (cases_eq k n)
  where
    here : k ≡ n → 1 ≤ cond (p n) 1 0 + passing p n
    here e = let one : ◌≡◌ {A = ℕ} (cond (p n) 1 0) 1 = ap (λ b. cond b 1 0) (ap p (sym e) ∙ is) in omega (arith, one)

    later : (k < n → 1 ≤ passing p n) → (k ≡ n → ⊥) → 1 ≤ cond (p n) 1 0 + passing p n
    later rest ne = let smaller : k < n = omega (arith, ne, below) in omega (arith, rest smaller)

one-more : (b c : Bool) (w v : ℕ) → (b ≡ true → c ≡ true) → w ≤ v → cond b 1 0 + w ≤ cond c 1 0 + v
one-more true true w v harder less = omega (arith, less)
one-more true false w v harder less = absurd (true≢false (sym (harder refl)))
one-more false true w v harder less = omega (arith, less)
one-more false false w v harder less = omega (arith, less)

-- fewer pass a test that is harder to pass
pub passing-less : (p q : ℕ → Bool) (n : ℕ) → ((k : ℕ) → k < n → q k ≡ true → p k ≡ true) → passing q n ≤ passing p n
passing-less p q zero weaker = omega arith
passing-less p q (suc n) weaker =
    one-more (q n) (p n) (passing q n) (passing p n) (weaker n (omega arith)) (passing-less p q n (λ k below. weaker k (omega (arith, below))))

-- by one at least, where one passed and doesn't
pub passing-fewer :
    (p q : ℕ → Bool) (n k : ℕ)
    → ((m : ℕ) → m < n → q m ≡ true → p m ≡ true) → k < n → p k ≡ true → q k ≡ false → passing q n + 1 ≤ passing p n
passing-fewer p q zero k weaker below was is = absurd (omega (arith, below))
passing-fewer p q (suc n) k weaker below was is =
    ⊎_elim here (later (λ smaller. passing-fewer p q n k (λ m lower. weaker m (omega (arith, lower))) smaller was is)) (cases_eq k n)
  where
    here : k ≡ n → cond (q n) 1 0 + passing q n + 1 ≤ cond (p n) 1 0 + passing p n
    here e =
        let none : ◌≡◌ {A = ℕ} (cond (q n) 1 0) 0 = ap (λ b. cond b 1 0) (ap q (sym e) ∙ is) in
        let one : ◌≡◌ {A = ℕ} (cond (p n) 1 0) 1 = ap (λ b. cond b 1 0) (ap p (sym e) ∙ was) in
        let rest : passing q n ≤ passing p n = passing-less p q n (λ m lower. weaker m (omega (arith, lower))) in
        omega (arith, none, one, rest)

    later : (k < n → passing q n + 1 ≤ passing p n) → (k ≡ n → ⊥) → cond (q n) 1 0 + passing q n + 1 ≤ cond (p n) 1 0 + passing p n
    later rest ne =
        let fewer : cond (q n) 1 0 + (passing q n + 1) ≤ cond (p n) 1 0 + passing p n =
        one-more (q n) (p n) (passing q n + 1) (passing p n) (weaker n (omega arith)) (rest (omega (arith, ne, below))) in
        omega (arith, fewer)

-- ---- the first that passes

-- the first of a list
abbrev pub first_of : List ℕ → Option ℕ
first_of [] = None
first_of (n ∷ ns) = Some n

-- Where a number of a range passes, the first that passes is no higher, and passes.
pub first-passes :
    (p : ℕ → Bool) (from count n : ℕ)
    → from ≤ n → n < from + count → p n ≡ true
    → (m : ℕ) × (first_of (filter p (range_with_len from count)) ≡ Some m) × (m ≤ n) × (p m ≡ true)
first-passes p from zero n low high is = absurd (omega (arith, low, high))
first-passes p from (suc count) n low high is = by (p from) refl (λ above. first-passes p (from + 1) count n above (omega (arith, high)) is)
  where
    by :
        (b : Bool) → p from ≡ b
        → (from + 1 ≤ n → (m : ℕ) × (first_of (filter p (range_with_len (from + 1) count)) ≡ Some m) × (m ≤ n) × (p m ≡ true))
        → (m : ℕ) × (first_of (cond b (from ∷ filter p (range_with_len (from + 1) count)) (filter p (range_with_len (from + 1) count))) ≡ Some m) × (m ≤ n) × (p m ≡ true)
    by true here rest = (from, refl, low, here)
    by false here rest =
        rest (⊎_elim (λ e. absurd (true≢false (sym is ∙ ap p (sym e) ∙ here))) (λ ne. omega (arith, ne, low)) (cases_eq from n))
