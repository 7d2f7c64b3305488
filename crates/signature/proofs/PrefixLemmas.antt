-- The least number of `_`.
use Rattle.std.proofs.Common.{◌≡◌, ℕ, zero, suc, ◌+◌, ◌<◌, ◌≤◌, Bool, true, false, ◌==◌, ◌&&◌, ◌||◌, List, [], ◌∷◌, ◌++◌, length, drop, refl, ap, sym, ◌∙◌, arith, append_assoc, ⊎_elim, true≢false, eq-eqb, eqb-true}
use Rattle.std.specs.Prelude.{nat_eq, if◌then◌else◌}
use Rattle.std.specs.List.{starts_with}
use Rattle.std.proofs.lemmas.Bool.{and_parts, and_from, cases_lt}
use Rattle.signature.specs.declared.symbol.Symbol.{Symbol}
use Rattle.signature.specs.Prefix.{underscores, underscore_run, needed_after, needed, some_begins_with, PrefixIsLeast}

underscores_end : (n : ℕ) → underscores n ++ 95 ∷ [] ≡ underscores (n + 1)
underscores_end zero = refl
underscores_end (suc n) = ap (λ us. 95 ∷ us) (underscores_end n) ∙ ap underscores step
  where
    step : suc (n + 1) ≡ suc n + 1
    step = omega arith

pub one_underscore_more :
    (made new base : List ℕ) (n : ℕ) → new ≡ made ++ 95 ∷ [] → made ≡ base ++ underscores n → new ≡ base ++ underscores (n + 1)
one_underscore_more made new base n e h =
    e ∙ ap (λ xs. xs ++ 95 ∷ []) h ∙ append_assoc base (underscores n) (95 ∷ []) ∙ ap (λ us. base ++ us) (underscores_end n)

-- ---- the prefix is the least

starts-run : (n : ℕ) (name : List ℕ) → n ≤ underscore_run name → starts_with nat_eq name (underscores n) ≡ true
starts-run zero name h = refl
starts-run (suc n) [] h = absurd (omega arith)
starts-run (suc n) (b ∷ bs) h = by (b == 95) refl h (starts-run n bs)
  where
    by :
        (t : Bool) → (b == 95) ≡ t → suc n ≤ (if t then underscore_run bs + 1 else 0)
        → (n ≤ underscore_run bs → starts_with nat_eq bs (underscores n) ≡ true)
        → ((95 == b) && starts_with nat_eq bs (underscores n)) ≡ true
    by true e l f = and_from _ _ (eq-eqb 95 b (sym (eqb-true b 95 e))) (f (omega (arith, l)))
    by false e l f = absurd (omega (arith, l))

run-starts : (n : ℕ) (name : List ℕ) → starts_with nat_eq name (underscores n) ≡ true → n ≤ underscore_run name
run-starts zero name h = omega arith
run-starts (suc n) [] h = cc
run-starts (suc n) (b ∷ bs) h =
    let parts : ((95 == b) ≡ true) × (starts_with nat_eq bs (underscores n) ≡ true) = and_parts _ _ h in
    let run : (if b == 95 then underscore_run bs + 1 else 0) ≡ underscore_run bs + 1 =
    ap (λ t. if t then underscore_run bs + 1 else 0) (eq-eqb b 95 (sym (eqb-true 95 b parts.0))) in
    omega (arith, run, run-starts n bs parts.1)

needed-same :
    (b c : ℕ) (base name : List ℕ) → (b == c) ≡ true → needed_after (b ∷ base) (c ∷ name) ≡ needed_after base name
needed-same b c base name e =
    ap (λ t. if t && starts_with nat_eq name base then underscore_run (drop (length base) name) + 1 else 0) e

starts-needed : (base name : List ℕ) (n : ℕ) → starts_with nat_eq name (base ++ underscores n) ≡ true → n < needed_after base name
starts-needed [] name n h = omega (arith, run-starts n name h)
starts-needed (b ∷ base) [] n h = cc
starts-needed (b ∷ base) (c ∷ name) n h =
    let parts : ((b == c) ≡ true) × (starts_with nat_eq name (base ++ underscores n) ≡ true) = and_parts _ _ h in
    omega (arith, needed-same b c base name parts.0, starts-needed base name n parts.1)

needed-starts : (base name : List ℕ) (n : ℕ) → n < needed_after base name → starts_with nat_eq name (base ++ underscores n) ≡ true
needed-starts [] name n h = starts-run n name (omega (arith, h))
needed-starts (b ∷ base) [] n h = absurd (omega (arith, h))
needed-starts (b ∷ base) (c ∷ name) n h = by (b == c) refl (needed-starts base name n)
  where
    by :
        (t : Bool) → (b == c) ≡ t → (n < needed_after base name → starts_with nat_eq name (base ++ underscores n) ≡ true)
        → (t && starts_with nat_eq name (base ++ underscores n)) ≡ true
    by true e f = f (omega (arith, h, needed-same b c base name e))
    by false e f =
        let none : needed_after (b ∷ base) (c ∷ name) ≡ 0 =
        ap (λ t. if t && starts_with nat_eq name base then underscore_run (drop (length base) name) + 1 else 0) e in
        absurd (omega (arith, h, none))

none-begins :
    (base : List ℕ) (n : ℕ) (symbols : List Symbol) → needed symbols base ≤ n → some_begins_with (base ++ underscores n) symbols ≡ false
none-begins base n [] h = refl
none-begins base n (s ∷ ss) h = by (starts_with nat_eq s.name (base ++ underscores n)) refl (none-begins base n ss)
  where
    by :
        (t : Bool) → starts_with nat_eq s.name (base ++ underscores n) ≡ t
        → (needed ss base ≤ n → some_begins_with (base ++ underscores n) ss ≡ false)
        → (t || some_begins_with (base ++ underscores n) ss) ≡ false
    by true e f = absurd (omega (arith, starts-needed base s.name n e, h))
    by false e f = f (omega (arith, h))

some-begins :
    (base : List ℕ) (n : ℕ) (symbols : List Symbol) → n < needed symbols base → some_begins_with (base ++ underscores n) symbols ≡ true
some-begins base n [] h = absurd (omega (arith, h))
some-begins base n (s ∷ ss) h = by (starts_with nat_eq s.name (base ++ underscores n)) refl (some-begins base n ss)
  where
    here : starts_with nat_eq s.name (base ++ underscores n) ≡ false → needed_after base s.name ≤ n
    here e = ⊎_elim (λ l. absurd (true≢false (sym (needed-starts base s.name n l) ∙ e))) (λ l. l) (cases_lt n (needed_after base s.name))

    by :
        (t : Bool) → starts_with nat_eq s.name (base ++ underscores n) ≡ t
        → (n < needed ss base → some_begins_with (base ++ underscores n) ss ≡ true)
        → (t || some_begins_with (base ++ underscores n) ss) ≡ true
    by true e f = refl
    by false e f = f (omega (arith, h, here e))

pub prefix_is_least : PrefixIsLeast
prefix_is_least symbols base =
    (none-begins base (needed symbols base) symbols (omega arith), λ n h. some-begins base n symbols h)
