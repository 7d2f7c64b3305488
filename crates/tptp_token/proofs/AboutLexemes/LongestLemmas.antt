-- The longest front of a text that passes a test.
use Rattle.std.proofs.Common.{◌≡◌, ℕ, zero, suc, ◌+◌, ◌-◌, ◌<◌, ◌≤◌, Bool, true, false, cond, ◌&&◌, List, [], ◌∷◌, ◌++◌, take, length, refl, ap, sym, ◌∙◌, ⊎_elim, arith, length-append, append-nil}
use Rattle.std.specs.Prelude.{if◌then◌else◌}
use Rattle.std.specs.List.{prefix_len, list_all}
use Rattle.std.proofs.lemmas.Bool.{cases_eq, cases_lt}
use Rattle.std.proofs.lemmas.List.{take-append-le}
use Rattle.std.proofs.Math.Seq.{take-append-add}
use Rattle.tptp_token.specs.Longest.{greatest, longest, behind}

-- ---- the greatest number

greatest-passes : (test : ℕ → Bool) (n : ℕ) → 0 < greatest test n → test (greatest test n) ≡ true
greatest-passes test zero h = absurd (omega arith)
greatest-passes test (suc n) h = by (greatest-passes test n) (test (suc n)) refl h
  where
    by :
        (0 < greatest test n → test (greatest test n) ≡ true)
        → (t : Bool) → test (suc n) ≡ t → 0 < (if t then suc n else greatest test n)
        → test (if t then suc n else greatest test n) ≡ true
    by lower true e k = e
    by lower false e k = lower k

greatest-within : (test : ℕ → Bool) (n : ℕ) → greatest test n ≤ n
greatest-within test zero = omega arith
greatest-within test (suc n) = by (greatest-within test n) (test (suc n))
  where
    by : greatest test n ≤ n → (t : Bool) → (if t then suc n else greatest test n) ≤ suc n
    by lower true = omega arith
    by lower false = omega arith

greatest-beyond : (test : ℕ → Bool) (n m : ℕ) → greatest test n < m → m ≤ n → test m ≡ false
greatest-beyond test zero m h k = absurd (omega arith)
greatest-beyond test (suc n) m h k = by (greatest-beyond test n m) (test (suc n)) refl h
  where
    by :
        (greatest test n < m → m ≤ n → test m ≡ false)
        → (t : Bool) → test (suc n) ≡ t → (if t then suc n else greatest test n) < m → test m ≡ false
    by lower true e l = absurd (omega arith)
    by lower false e l = ⊎_elim (λ same. ap test same ∙ e) (λ other. lower l (omega arith)) (cases_eq m (suc n))

greatest-is :
    (test : ℕ → Bool) (n k : ℕ)
    → k ≤ n → (0 < k → test k ≡ true) → ((m : ℕ) → k < m → m ≤ n → test m ≡ false) → greatest test n ≡ k
greatest-is test zero k h passes beyond = omega arith
greatest-is test (suc n) k h passes beyond =
    by (λ w. greatest-is test n k w passes (λ m l v. beyond m l (omega arith))) (test (suc n)) refl
  where
    by : (k ≤ n → greatest test n ≡ k) → (t : Bool) → test (suc n) ≡ t → (if t then suc n else greatest test n) ≡ k
    by lower true e =
        ⊎_elim (λ same. sym same)
        (λ other. let t : true ≡ false = sym e ∙ beyond (suc n) (omega arith) (omega arith) in cc) (cases_eq k (suc n))
    by lower false e =
        ⊎_elim
        (λ same. let t : true ≡ false = sym (passes (omega arith)) ∙ ap test same ∙ e in cc)
        (λ other. lower (omega arith)) (cases_eq k (suc n))

-- ---- the longest front

pub longest-passes :
    (test : List ℕ → Bool) (bytes : List ℕ) → 0 < longest test bytes → test (take (longest test bytes) bytes) ≡ true
unfolding longest
longest-passes test bytes h = greatest-passes (λ n. test (take n bytes)) (length bytes) h

pub longest-within : (test : List ℕ → Bool) (bytes : List ℕ) → longest test bytes ≤ length bytes
unfolding longest
longest-within test bytes = greatest-within (λ n. test (take n bytes)) (length bytes)

pub longest-beyond :
    (test : List ℕ → Bool) (bytes : List ℕ) (m : ℕ)
    → longest test bytes < m → m ≤ length bytes → test (take m bytes) ≡ false
unfolding longest
longest-beyond test bytes m h k = greatest-beyond (λ n. test (take n bytes)) (length bytes) m h k

pub longest-is :
    (test : List ℕ → Bool) (bytes : List ℕ) (n : ℕ)
    → n ≤ length bytes → (0 < n → test (take n bytes) ≡ true)
    → ((m : ℕ) → n < m → m ≤ length bytes → test (take m bytes) ≡ false)
    → longest test bytes ≡ n
unfolding longest
longest-is test bytes n h passes beyond = greatest-is (λ m. test (take m bytes)) (length bytes) n h passes beyond

-- no front passes
pub longest-none :
    (test : List ℕ → Bool) (bytes : List ℕ)
    → ((m : ℕ) → 0 < m → m ≤ length bytes → test (take m bytes) ≡ false) → longest test bytes ≡ 0
longest-none test bytes h = longest-is test bytes 0 (omega arith) (λ l. absurd (omega arith)) h

-- tests that agree on the fronts
pub longest-same :
    (test other : List ℕ → Bool) (bytes : List ℕ)
    → ((m : ℕ) → 0 < m → m ≤ length bytes → test (take m bytes) ≡ other (take m bytes))
    → longest test bytes ≡ longest other bytes
longest-same test other bytes h =
    longest-is test bytes (longest other bytes) (longest-within other bytes)
    (λ l. h (longest other bytes) l (longest-within other bytes) ∙ longest-passes other bytes l)
    (λ m l w. h m (omega arith) w ∙ longest-beyond other bytes m l w)

-- A front that passes, and a test of what follows it.
pub longest-after :
    (test inner : List ℕ → Bool) (front rest : List ℕ)
    → test front ≡ true
    → ((m : ℕ) → 0 < m → m ≤ length rest → test (front ++ take m rest) ≡ inner (take m rest))
    → longest test (front ++ rest) ≡ length front + longest inner rest
longest-after test inner front rest whole h =
    longest-is test (front ++ rest) (length front + longest inner rest)
    (omega (arith, longest-within inner rest, length-append front rest))
    (λ l. ap test (take-append-add front rest (longest inner rest)) ∙ passes (longest inner rest) refl)
    (λ m l w. beyond m (m - length front) (omega arith) l w)
  where
    passes : (n : ℕ) → longest inner rest ≡ n → test (front ++ take n rest) ≡ true
    passes zero e = ap test (append-nil front) ∙ whole
    passes (suc n) e =
        h (suc n) (omega arith) (omega (arith, longest-within inner rest))
        ∙ ap (λ k. inner (take k rest)) (sym e)
        ∙ longest-passes inner rest (omega arith)

    beyond :
        (m j : ℕ)
        → (length front < m → m ≡ length front + j)
        → length front + longest inner rest < m → m ≤ length (front ++ rest)
        → test (take m (front ++ rest)) ≡ false
    beyond m j e l w =
        let same : m ≡ length front + j = e (omega arith) in
        ap (λ k. test (take k (front ++ rest))) same
        ∙ ap test (take-append-add front rest j)
        ∙ h j (omega arith) (omega (arith, length-append front rest))
        ∙ longest-beyond inner rest j (omega arith) (omega (arith, length-append front rest))

-- A front of which nothing passes, and a test of what follows it.
pub longest-behind :
    (test inner : List ℕ → Bool) (front rest : List ℕ)
    → ((m : ℕ) → 0 < m → m ≤ length front → test (take m front) ≡ false)
    → ((m : ℕ) → 0 < m → m ≤ length rest → test (front ++ take m rest) ≡ inner (take m rest))
    → longest test (front ++ rest) ≡ behind (length front) (longest inner rest)
longest-behind test inner front rest none h = by (longest inner rest) refl
  where
    beyond : (n m j : ℕ) → longest inner rest ≡ n → n < j → m ≡ length front + j → m ≤ length (front ++ rest) → test (take m (front ++ rest)) ≡ false
    beyond n m j e l same w =
        ap (λ k. test (take k (front ++ rest))) same
        ∙ ap test (take-append-add front rest j)
        ∙ h j (omega arith) (omega (arith, length-append front rest))
        ∙ longest-beyond inner rest j (omega arith) (omega (arith, length-append front rest))

    within : (m : ℕ) → 0 < m → m ≤ length front → test (take m (front ++ rest)) ≡ false
    within m l w = ap test (take-append-le m front rest w) ∙ none m l w

    by : (n : ℕ) → longest inner rest ≡ n → longest test (front ++ rest) ≡ behind (length front) n
    by zero e =
        longest-none test (front ++ rest)
        (λ m l w.
        ⊎_elim (λ inside. within m l (omega arith)) (λ outside. beyond 0 m (m - length front) e (omega arith) (omega arith) w)
        (cases_lt m (length front + 1)))
    by (suc n) e =
        longest-is test (front ++ rest) (length front + suc n)
        (omega (arith, longest-within inner rest, length-append front rest))
        (λ l.
        ap test (take-append-add front rest (suc n))
        ∙ h (suc n) (omega arith) (omega (arith, longest-within inner rest))
        ∙ ap (λ k. inner (take k rest)) (sym e)
        ∙ longest-passes inner rest (omega arith))
        (λ m l w. beyond (suc n) m (m - length front) e (omega arith) (omega arith) w)

-- the longest front of bytes that all pass
pub longest-all : (p : ℕ → Bool) (bytes : List ℕ) → longest (list_all p) bytes ≡ prefix_len p bytes
longest-all p [] = longest-none (list_all p) [] (λ m l w. absurd (omega arith))
longest-all p (b ∷ bs) = by (longest-all p bs) (p b) refl
  where
    some : (t : Bool) (m : ℕ) → p b ≡ t → 0 < m → list_all p (take m (b ∷ bs)) ≡ (t && list_all p (take (m - 1) bs))
    some t zero e l = absurd (omega arith)
    some t (suc m) e l =
        let same : m ≡ suc m - 1 = omega arith in
        ap (λ s. s && list_all p (take m bs)) e ∙ ap (λ k. t && list_all p (take k bs)) same

    by : longest (list_all p) bs ≡ prefix_len p bs → (t : Bool) → p b ≡ t → longest (list_all p) (b ∷ bs) ≡ cond t (1 + prefix_len p bs) 0
    by rest true e =
        longest-after (list_all p) (list_all p) (b ∷ []) bs (ap (λ s. s && true) e)
        (λ m l w. ap (λ s. s && list_all p (take m bs)) e)
        ∙ ap (λ n. 1 + n) rest
    by rest false e = longest-none (list_all p) (b ∷ bs) (λ m l w. some false m e l)
