-- Where the last slash of a path stands.
use Rattle.std.proofs.Common.{◌≡◌, ℕ, zero, suc, ◌-◌, ◌<◌, ◌≤◌, Bool, true, false, ◌||◌, ◌==◌, List, [], ◌∷◌, length, take, drop, get_or, refl, ap, sym, ◌∙◌, arith, eq-eqb, subst}
use Rattle.std.specs.Prelude.{if◌then◌else◌}
use Rattle.std.proofs.lemmas.List.{take_all, length-drop}
use Rattle.command_reports.specs.Names.{has_slash, after_last_slash}

pub no_slash : (xs : List ℕ) → has_slash xs ≡ false → xs ≡ after_last_slash xs
no_slash [] h = refl
no_slash (b ∷ bs) h = ap (λ c. if c then after_last_slash bs else b ∷ bs) (sym h)

or_true : (a b : Bool) → b ≡ true → (a || b) ≡ true
or_true true b h = refl
or_true false b h = h

pub slash_at : (xs : List ℕ) (j : ℕ) → j < length xs → get_or xs j 0 ≡ 47 → has_slash xs ≡ true
slash_at [] j h e = absurd (omega arith)
slash_at (b ∷ bs) zero h e = ap (λ c. c || has_slash bs) (eq-eqb b 47 e)
slash_at (b ∷ bs) (suc j) h e = or_true (b == 47) (has_slash bs) (slash_at bs j (omega arith) e)

pub behind_slash_at :
    (xs : List ℕ) (j : ℕ)
    → j < length xs → get_or xs j 0 ≡ 47 → has_slash (drop (suc j) xs) ≡ false → drop (suc j) xs ≡ after_last_slash xs
behind_slash_at [] j h e none = absurd (omega arith)
behind_slash_at (b ∷ bs) zero h e none =
    no_slash bs none ∙ ap (λ c. if c then after_last_slash bs else b ∷ bs) (sym (slash_at (b ∷ bs) zero h e))
behind_slash_at (b ∷ bs) (suc j) h e none =
    behind_slash_at bs j (omega arith) e none
    ∙ ap (λ c. if c then after_last_slash bs else b ∷ bs) (sym (slash_at (b ∷ bs) (suc j) h e))

-- from the end of the loop
pub from_start : (xs : List ℕ) (k : ℕ) → take (length xs - k) (drop k xs) ≡ drop k xs
from_start xs k = take_all (length xs - k) (drop k xs) (omega (arith, length-drop k xs))

pub behind_start :
    (xs : List ℕ) (k : ℕ)
    → has_slash (drop k xs) ≡ false → (k ≡ 0 → ⊥) → k ≤ length xs → get_or xs (k - 1) 0 ≡ 47
    → take (length xs - k) (drop k xs) ≡ after_last_slash xs
behind_start xs zero none some h e = absurd (some refl)
behind_start xs (suc j) none some h e =
    from_start xs (suc j) ∙ behind_slash_at xs j (omega arith) (ap (λ i. get_or xs i 0) before ∙ e) none
  where
    before : j ≡ suc j - 1
    before = omega arith

pub from_front :
    (xs : List ℕ) (k : ℕ) → has_slash (drop k xs) ≡ false → k ≡ 0 → take (length xs - k) (drop k xs) ≡ after_last_slash xs
from_front xs k none e =
    from_start xs k
    ∙ ap (λ i. drop i xs) e
    ∙ no_slash xs (subst (λ i. has_slash (drop i xs) ≡ false) e none)
