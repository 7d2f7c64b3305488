-- Ranks: which numbers are used, and what name each shared variable is given.
use Rattle.std.proofs.Common.{◌≡◌, ℕ, zero, suc, ◌+◌, ◌-◌, ◌*◌, ◌/◌, ◌%◌, ◌<◌, ◌≤◌, ◌^◌, max, Bool, true, false, ◌==◌, cond, Some, List, [], ◌∷◌, ◌++◌, length, get_or, refl, ap, sym, ◌∙◌, subst, ⊎_elim, arith, eq-eqb}
use Rattle.std.specs.Prelude.{nat_lt}
use Rattle.std.proofs.lemmas.Bool.{cases_lt, cond-true, cond-false, cases_Bool}
use Rattle.std.proofs.lemmas.List.{length-append}
use Rattle.std.proofs.Math.ListN.{get_or-append}
use Rattle.std.proofs.Math.Seq.{get_or-append_seam}
use Rattle.fol_base.specs.declared.clause.Side.{Side}
use Rattle.fol_base.specs.declared.clause.Side.TheVariants.{Left, Right}
use Rattle.fol_base.specs.declared.limits.TheConstants.{SIZE_LIMIT}
use Rattle.unifier.specs.declared.solution.Solution.{Solution}
use Rattle.unifier.specs.SolvedForm.{code_of}
use Rattle.unifier.specs.Layout.{cell_of, all_pass}
use Rattle.unifier.specs.Solution.{solved_form}
use Rattle.unifier.specs.Renaming.{code_count, is_within, is_shared, rank, AreNames, HasNames}
use Rattle.plain_types.proofs.Parity.{halves, even-half, odd-half}
use Rattle.unifier.proofs.AboutLayouts.PlaceLemmas.{found-passes, ltb-is}
use Rattle.list_lemmas.proofs.Numbers.{less-says as ltb-less}

abbrev pub side_count : ℕ → ℕ → Side → ℕ
side_count l r Left = l
side_count l r Right = r

-- ---- ranks

abbrev number_of : Bool → ℕ
number_of b = cond b 1 0

pub rank-more : (test : ℕ → Bool) (n new : ℕ) (passes : Bool) → passes ≡ test n → new ≡ rank test n + cond passes 1 0 → new ≡ rank test (n + 1)
rank-more test n new passes is e =
    let next : suc n ≡ n + 1 = omega arith in
    e ∙ ap (λ b. rank test n + cond b 1 0) is ∙ ap (rank test) next

rank-up : (test : ℕ → Bool) (n m : ℕ) → rank test n ≤ rank test (n + m)
rank-up test n zero = let e : n + zero ≡ n = omega arith in let P : ℕ → Type 0 = λ k. rank test n ≤ rank test k in subst P (sym e) (omega arith)
rank-up test n (suc m) =
    let e : n + suc m ≡ suc (n + m) = omega arith in
    let P : ℕ → Type 0 = λ k. rank test n ≤ rank test k in
    subst P (sym e) (omega (arith, rank-up test n m))

pub rank-below : (test : ℕ → Bool) (n m : ℕ) → n < m → test n ≡ true → rank test n < rank test m
rank-below test n m less passes =
    let e : suc n + (m - suc n) ≡ m = omega arith in
    let one : number_of (test n) ≡ 1 = cond-true (test n) 1 0 passes in
    let up : rank test (suc n) ≤ rank test m = let P : ℕ → Type 0 = λ k. rank test (suc n) ≤ rank test k in subst P e (rank-up test (suc n) (m - suc n)) in
    omega (arith, one, up)

pub rank-same : (test : ℕ → Bool) (n m : ℕ) → test n ≡ true → test m ≡ true → rank test n ≡ rank test m → n ≡ m
rank-same test n m one other e =
    ⊎_elim
    (λ less. absurd (omega (arith, rank-below test n m less one)))
    (λ ge. ⊎_elim (λ less. absurd (omega (arith, rank-below test m n less other))) (λ le. omega arith) (cases_lt m n))
    (cases_lt n m)

-- each number below the rank is one's
pub rank-of : (test : ℕ → Bool) (n k : ℕ) → k < rank test n → (m : ℕ) × (m < n) × (test m ≡ true) × (rank test m ≡ k)
rank-of test zero k less = absurd (omega arith)
rank-of test (suc n) k less =
    ⊎_elim
    (λ before. let there = rank-of test n k before in (there.0, omega (arith, there.1), there.2, there.3))
    (λ ge.
    ⊎_elim
    (λ passes. let one : number_of (test n) ≡ 1 = cond-true (test n) 1 0 passes in (n, omega arith, passes, omega (arith, one)))
    (λ fails. let none : number_of (test n) ≡ 0 = cond-false (test n) 1 0 fails in absurd (omega (arith, none)))
    (cases_Bool (test n)))
    (cases_lt k (rank test n))

-- ---- the names

pub record SoFar (test : ℕ → Bool) (names : List ℕ) (next : ℕ) (n : ℕ) : Type 0 where
  pub next_is : next ≡ rank test n
  pub below : next ≤ n
  pub many : length names ≡ n
  pub each : (w : ℕ) → w < n → get_or names w 0 ≡ rank test w

pub names-start : (test : ℕ → Bool) (names : List ℕ) → names ≡ [] → SoFar test names 0 0
names-start test names e = record { next_is = refl; below = omega arith; many = ap length e; each = λ w less. absurd (omega arith) }

pub names-push :
    (test : ℕ → Bool) (names new : List ℕ) (next given later n : ℕ) (passes : Bool)
    → SoFar test names next n → given ≡ next → new ≡ names ++ given ∷ [] → passes ≡ test n → later ≡ next + cond passes 1 0
    → SoFar test new later (n + 1)
names-push test names new next given later n passes h g e is l =
    let small : cond passes 1 0 ≤ 1 = at_most passes in
    record {
      next_is = rank-more test n later passes is (l ∙ ap (λ m. m + cond passes 1 0) h.next_is);
      below = omega (arith, h.below, small, l);
      many = ap length e ∙ omega (arith, length-append names (given ∷ []), h.many);
      each = λ w less.
          ap (λ ys. get_or ys w 0) e
          ∙ ⊎_elim
          (λ front. get_or-append names (given ∷ []) 0 w (omega (arith, h.many)) ∙ h.each w front)
          (λ ge.
          let last : w ≡ length names = omega (arith, h.many) in
          let same : n ≡ w = omega (arith, h.many) in
          ap (λ j. get_or (names ++ given ∷ []) j 0) last ∙ get_or-append_seam names given [] 0 ∙ g ∙ h.next_is ∙ ap (rank test) same)
          (cases_lt w n);
    }
  where
    at_most : (b : Bool) → cond b 1 0 ≤ 1
    at_most true = omega arith
    at_most false = omega arith

pub names-done :
    (b : Solution) (l r : ℕ) (names : List ℕ) (next n count : ℕ)
    → SoFar (is_shared (solved_form b) l r) names next n → n ≡ count → count ≡ code_count b.apart l r → AreNames (solved_form b) l r names
names-done b l r names next n count h all is = record { many = h.many ∙ all ∙ is; each = λ w less. h.each w (omega (arith, h.many)) }

-- ---- numbers that are used

-- taken apart, a side's variable is within where it is below its side's count
pub within-left : (l r v : ℕ) → is_within true l r (2 * v) ≡ nat_lt v l
within-left l r v = even-half (λ n. nat_lt n l) (λ n. nat_lt n r) v

pub within-right : (l r v : ℕ) → is_within true l r (2 * v + 1) ≡ nat_lt v r
within-right l r v = odd-half (λ n. nat_lt n l) (λ n. nat_lt n r) v

-- a side's variable below its count is used
pub code-within :
    (apart : Bool) (l r : ℕ) (side : Side) (v : ℕ) → v < side_count l r side → is_within apart l r (code_of apart side v) ≡ true
code-within true l r Left v h = within-left l r v ∙ ltb-is v l h
code-within true l r Right v h = within-right l r v ∙ ltb-is v r h
code-within false l r Left v h = ltb-is v (max l r) (omega (arith, h))
code-within false l r Right v h = ltb-is v (max l r) (omega (arith, h))

-- and has a number below the count of numbers
pub code-inside : (apart : Bool) (l r : ℕ) (side : Side) (v : ℕ) → v < side_count l r side → code_of apart side v < code_count apart l r
code-inside true l r Left v h = omega (arith, h)
code-inside true l r Right v h = omega (arith, h)
code-inside false l r Left v h = omega (arith, h)
code-inside false l r Right v h = omega (arith, h)

-- a used number is that of a side's variable below its count
pub within-side :
    (apart : Bool) (l r w : ℕ) → is_within apart l r w ≡ true
    → (side : Side) × (v : ℕ) × (v < side_count l r side) × (code_of apart side v ≡ w)
within-side true l r w h =
    ⊎_elim
    (λ p. (Left, w / 2, ltb-less (w / 2) l (sym (cond-true (w % 2 == 0) (nat_lt (w / 2) l) (nat_lt (w / 2) r) (eq-eqb (w % 2) 0 p.0)) ∙ h), p.1))
    (λ p. (Right, w / 2, ltb-less (w / 2) r (sym (cond-false (w % 2 == 0) (nat_lt (w / 2) l) (nat_lt (w / 2) r) (ap (λ m. m == 0) p.0)) ∙ h), p.1))
    (halves w)
within-side false l r w h =
    let less : w < max l r = ltb-less w (max l r) h in
    ⊎_elim (λ in_left. (Left, w, in_left, refl)) (λ ge. (Right, w, omega arith, refl)) (cases_lt w l)

-- and is below the count of numbers
within-inside : (apart : Bool) (l r w : ℕ) → is_within apart l r w ≡ true → w < code_count apart l r
within-inside apart l r w h =
    let at = within-side apart l r w h in
    let P : ℕ → Type 0 = λ u. u < code_count apart l r in
    subst P at.3 (code-inside apart l r at.0 at.1 at.2)

-- so is a variable that has a cell
pub bound-within :
    (b : Solution) (l r w k : ℕ) → all_pass (is_within b.apart l r) b.places.items ≡ true → cell_of w b.places.items ≡ Some k
    → (is_within b.apart l r w ≡ true) × (w < code_count b.apart l r)
bound-within b l r w k h found =
    let within : is_within b.apart l r w ≡ true = found-passes (is_within b.apart l r) w k b.places.items h found in
    (within, within-inside b.apart l r w within)

pub has-names :
    (b : Solution) (l r : ℕ) (names : List ℕ) → all_pass (is_within b.apart l r) b.places.items ≡ true → AreNames (solved_form b) l r names → HasNames b (length names)
has-names b l r names h are w k found = omega (arith, (bound-within b l r w k h found).1, are.many)

-- numbers below the limit of sizes have names of 32 bits on both sides
pub own-names :
    (b : Solution) (l r : ℕ) → l ≤ SIZE_LIMIT → r ≤ SIZE_LIMIT → all_pass (is_within b.apart l r) b.places.items ≡ true → HasNames b (2 ^ 32)
own-names b l r left right h w k found = omega (arith, (bound-within b l r w k h found).1, few b.apart)
  where
    few : (apart : Bool) → code_count apart l r ≤ 2 ^ 32
    few true = omega (arith, left, right)
    few false = omega (arith, left, right)

pub own-codes : (apart : Bool) (side : Side) (v count : ℕ) → v < count → count ≤ SIZE_LIMIT → code_of apart side v < 2 ^ 32
own-codes true Left v count less few = omega (arith, less, few)
own-codes true Right v count less few = omega (arith, less, few)
own-codes false Left v count less few = omega (arith, less, few)
own-codes false Right v count less few = omega (arith, less, few)
