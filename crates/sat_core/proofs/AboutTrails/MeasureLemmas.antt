-- Why the search ends: what is left to try falls.
use Rattle.std.proofs.Common.{◌≡◌, ℕ, zero, suc, ◌*◌, ◌^◌, ◌<◌, ◌≤◌, Bool, true, false, cond, List, [], ◌∷◌, ◌++◌, length, take, ap, ◌∙◌, arith}
use Rattle.std.proofs.Math.Nat.{pow-succ'}
use Rattle.sat_core.specs.declared.trail.Assigned.{Assigned}
use Rattle.sat_core.specs.Trail.{entry_at}
use Rattle.sat_core.specs.Search.{is_decision, remaining}

three_more : (n : ℕ) → 3 ^ suc n ≡ 3 * 3 ^ n
three_more n = pow-succ' 3 n

three_pos : (n : ℕ) → 0 < 3 ^ n
three_pos zero = omega arith
three_pos (suc n) = let h = three_pos n in let e = three_more n in omega (arith, h, e)

digit : (e : Assigned) → cond (is_decision e) 1 0 ≤ 1
digit e = go (is_decision e)
  where
    go : (b : Bool) → cond b 1 0 ≤ 1
    go true = omega arith
    go false = omega arith

digit_times : (e : Assigned) (w : ℕ) → cond (is_decision e) 1 0 * w ≤ w
digit_times e w = go (is_decision e)
  where
    go : (b : Bool) → cond b 1 0 * w ≤ w
    go true = omega arith
    go false = omega arith

remaining_below : (n : ℕ) (entries : List Assigned) → remaining n entries < 3 ^ n
remaining_below zero entries = omega arith
remaining_below (suc n) [] = let h = remaining_below n [] in let e = three_more n in omega (arith, h, e)
remaining_below (suc n) (x ∷ entries) =
    let h = remaining_below n entries in let d = digit_times x (3 ^ n) in let e = three_more n in omega (arith, h, d, e)

-- one more literal
pub remaining_push : (n : ℕ) (entries : List Assigned) (e : Assigned) → length entries < n → remaining n (entries ++ e ∷ []) < remaining n entries
remaining_push zero entries e h = absurd (omega arith)
remaining_push (suc n) [] e h = let d = digit_times e (3 ^ n) in let p = three_pos n in omega (arith, d, p)
remaining_push (suc n) (x ∷ entries) e h = let r = remaining_push n entries e (omega arith) in omega (arith, r)

-- a decision is turned
pub remaining_turn :
    (n cut : ℕ) (entries : List Assigned) (e : Assigned)
    → cut < length entries → length entries ≤ n → is_decision (entry_at entries cut) ≡ true → is_decision e ≡ false
    → remaining n (take cut entries ++ e ∷ []) < remaining n entries
remaining_turn zero cut [] e h w d i = absurd (omega arith)
remaining_turn zero cut (x ∷ entries) e h w d i = absurd (omega arith)
remaining_turn (suc n) cut [] e h w d i = absurd (omega arith)
remaining_turn (suc n) zero (x ∷ entries) e h w d i =
    let one : cond (is_decision x) 1 0 * 3 ^ n ≡ 3 ^ n = ap (λ (b : Bool). cond b 1 0 * 3 ^ n) d ∙ omega arith in
    let none : cond (is_decision e) 1 0 * 3 ^ n ≡ 0 = ap (λ (b : Bool). cond b 1 0 * 3 ^ n) i ∙ omega arith in
    let low = remaining_below n [] in
    omega (arith, one, none, low)
remaining_turn (suc n) (suc cut) (x ∷ entries) e h w d i = let r = remaining_turn n cut entries e (omega arith) (omega arith) d i in omega (arith, r)
