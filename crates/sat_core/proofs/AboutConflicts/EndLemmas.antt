-- Lists that stand one after another in one list.
use Rattle.std.proofs.Common.{◌≡◌, ℕ, zero, suc, ◌+◌, ◌-◌, ◌<◌, ◌≤◌, ◌^◌, subst, List, [], ◌∷◌, ◌++◌, length, take, drop, get_or, refl, ap, sym, ◌∙◌, arith}
use Rattle.std.specs.List.{between}
use Rattle.std.proofs.lemmas.List.{take-append-le, drop-append-le, drop_at, take_all, length-append, length-drop}
use Rattle.sat_core.specs.Ends.{cut_from, AreEnds, AreCut}

between-within :
    {X : Type 0} (xs ys : List X) (start end : ℕ) → start ≤ end → end ≤ length xs → between start end (xs ++ ys) ≡ between start end xs
between-within xs ys start end before within =
    ap (take (end - start)) (drop-append-le start xs ys (omega (arith, before, within)))
    ∙ take-append-le (end - start) (drop start xs) ys (let n = length-drop start xs in omega (arith, n, within))

-- there is one list for each end
pub cut-count : {X : Type 0} (xs : List X) (start : ℕ) (ends : List ℕ) → length (cut_from xs start ends) ≡ length ends
cut-count xs start [] = refl
cut-count xs start (end ∷ ends) = ap suc (cut-count xs end ends)

-- a list begins where the one before ends
pub cut-at :
    {X : Type 0} (xs : List X) (start : ℕ) (ends : List ℕ) (i : ℕ) → i < length ends
    → get_or (cut_from xs start ends) i [] ≡ between (get_or (start ∷ ends) i 0) (get_or ends i 0) xs
cut-at xs start [] i below = absurd (omega (arith, below))
cut-at xs start (end ∷ ends) zero below = refl
cut-at xs start (end ∷ ends) (suc i) below = cut-at xs end ends i (omega (arith, below))

-- no end is past the values
pub start-within : (start : ℕ) (ends : List ℕ) (n : ℕ) → AreEnds start ends n → start ≤ n
start-within start [] n are = omega (arith, are)
start-within start (end ∷ ends) n are = let rest = start-within end ends n are.1 in omega (arith, are.0, rest)

pub end-within : (start : ℕ) (ends : List ℕ) (n i : ℕ) → AreEnds start ends n → i < length ends → get_or ends i 0 ≤ n
end-within start [] n i are below = absurd (omega (arith, below))
end-within start (end ∷ ends) n zero are below = start-within end ends n are.1
end-within start (end ∷ ends) n (suc i) are below = end-within end ends n i are.1 (omega (arith, below))

pub ends-rise : (start : ℕ) (ends : List ℕ) (n i : ℕ) → AreEnds start ends n → i < length ends → get_or (start ∷ ends) i 0 ≤ get_or ends i 0
ends-rise start [] n i are below = absurd (omega (arith, below))
ends-rise start (end ∷ ends) n zero are below = are.0
ends-rise start (end ∷ ends) n (suc i) are below = ends-rise end ends n i are.1 (omega (arith, below))

-- one more list
pub cut-push :
    {X : Type 0} (xs ys : List X) (start : ℕ) (ends : List ℕ) (end : ℕ)
    → AreEnds start ends (length xs) → end ≡ length xs + length ys
    → cut_from (xs ++ ys) start (ends ++ end ∷ []) ≡ cut_from xs start ends ++ ys ∷ []
cut-push xs ys start [] end are is =
    ap (λ p. p ∷ [])
    (ap (take (end - start)) (drop_at xs ys start (sym are))
    ∙ take_all (end - start) ys (omega (arith, are, is)))
cut-push xs ys start (first ∷ ends) end are is =
    ap (λ p. p ∷ cut_from (xs ++ ys) first (ends ++ end ∷ []))
    (between-within xs ys start first are.0 (start-within first ends (length xs) are.1))
    ∙ ap (λ ps. between start first xs ∷ ps) (cut-push xs ys first ends end are.1 is)

pub ends-push : (start : ℕ) (ends : List ℕ) (n end : ℕ) → AreEnds start ends n → n ≤ end → AreEnds start (ends ++ end ∷ []) end
ends-push start [] n end are before = (omega (arith, are, before), refl)
ends-push start (first ∷ ends) n end are before = (are.0, ends-push first ends n end are.1 before)

pub cut-longer :
    {X : Type 0} (xs ys zs : List X) (ends longer : List ℕ) (end : ℕ)
    → AreCut xs ends → zs ≡ xs ++ ys → longer ≡ ends ++ end ∷ [] → end ≡ length xs + length ys → end < 2 ^ 32
    → AreCut zs longer
cut-longer xs ys zs ends longer end are all more is few =
    let count : length zs ≡ end = ap length all ∙ length-append xs ys ∙ sym is in (
      subst (λ n. AreEnds 0 longer n) (sym count) (subst (λ es. AreEnds 0 es end) (sym more) (ends-push 0 ends (length xs) end are.0 (omega (arith, is)))),
      omega (arith, count, few),
    )
