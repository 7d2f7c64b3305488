-- How many lists of truth values pass a test: fewer pass a stronger one.
use Rattle.std.proofs.Common.{◌≡◌, ℕ, zero, suc, ◌+◌, ◌<◌, ◌≤◌, Bool, true, false, List, [], ◌∷◌, length, if◌then◌else◌, refl, ap, arith}

-- 1 for true, 0 for false
abbrev pub bit : Bool → ℕ
bit b = if b then 1 else 0

-- how many lists of that many truth values pass
abbrev pub passing : ℕ → (List Bool → Bool) → ℕ
passing zero test = bit (test [])
passing (suc n) test = passing n (λ vs. test (true ∷ vs)) + passing n (λ vs. test (false ∷ vs))

fewer-pass : (n : ℕ) (p q : List Bool → Bool) → ((vs : List Bool) → q vs ≡ true → p vs ≡ true) → passing n q ≤ passing n p
fewer-pass zero p q weaker = by (q []) refl
  where
    by : (b : Bool) → q [] ≡ b → bit b ≤ bit (p [])
    by true e = let f : bit (p []) ≡ 1 = ap bit (weaker [] e) in omega (arith, f)
    by false e = omega arith
fewer-pass (suc n) p q weaker =
    omega (
      arith,
      fewer-pass n (λ vs. p (true ∷ vs)) (λ vs. q (true ∷ vs)) (λ vs. weaker (true ∷ vs)),
      fewer-pass n (λ vs. p (false ∷ vs)) (λ vs. q (false ∷ vs)) (λ vs. weaker (false ∷ vs)),
    )

pub count-falls :
    (n : ℕ) (p q : List Bool → Bool) → ((vs : List Bool) → q vs ≡ true → p vs ≡ true)
    → (ws : List Bool) → length ws ≡ n → p ws ≡ true → q ws ≡ false → passing n q < passing n p
count-falls zero p q weaker [] sized holds fails =
    let one : bit (p []) ≡ 1 = ap bit holds in
    let none : bit (q []) ≡ 0 = ap bit fails in
    omega (arith, one, none)
count-falls zero p q weaker (w ∷ ws) sized holds fails = absurd (omega (arith, sized))
count-falls (suc n) p q weaker [] sized holds fails = absurd (omega (arith, sized))
count-falls (suc n) p q weaker (true ∷ ws) sized holds fails =
    omega (
      arith,
      count-falls n (λ vs. p (true ∷ vs)) (λ vs. q (true ∷ vs)) (λ vs. weaker (true ∷ vs)) ws (omega (arith, sized)) holds fails,
      fewer-pass n (λ vs. p (false ∷ vs)) (λ vs. q (false ∷ vs)) (λ vs. weaker (false ∷ vs)),
    )
count-falls (suc n) p q weaker (false ∷ ws) sized holds fails =
    omega (
      arith,
      fewer-pass n (λ vs. p (true ∷ vs)) (λ vs. q (true ∷ vs)) (λ vs. weaker (true ∷ vs)),
      count-falls n (λ vs. p (false ∷ vs)) (λ vs. q (false ∷ vs)) (λ vs. weaker (false ∷ vs)) ws (omega (arith, sized)) holds fails,
    )
