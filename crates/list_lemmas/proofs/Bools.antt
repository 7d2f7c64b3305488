-- Laws of truth values and of `beq`.
use mathlib.Core.Bool.{beq}
use Rattle.std.proofs.Common.{Bool, ap, false, inl, inr, not, refl, sym, true, true≢false, ◌&&◌, ◌||◌, ◌≡◌, ◌⊎◌}
use Rattle.std.proofs.lemmas.Bool.{and_from}

pub beq-says : (x y : Bool) → beq x y ≡ true → x ≡ y
beq-says true true h = refl
beq-says true false h = absurd (true≢false (sym h))
beq-says false true h = absurd (true≢false (sym h))
beq-says false false h = refl

pub beq-from : (x y : Bool) → x ≡ y → beq x y ≡ true
beq-from true true e = refl
beq-from true false e = absurd (true≢false e)
beq-from false true e = absurd (true≢false (sym e))
beq-from false false e = refl

pub neither-true : (a b : Bool) → (a || b) ≡ false → (a ≡ false) × (b ≡ false)
neither-true true b h = absurd (true≢false h)
neither-true false b h = (refl, h)

pub or-false : (t : Bool) → (t || false) ≡ t
or-false true = refl
or-false false = refl

pub and-true : (t : Bool) → (t && true) ≡ t
and-true true = refl
and-true false = refl

pub two-true : (a b : Bool) → a ≡ true → b ≡ true → (a && (b && true)) ≡ true
two-true a b h k = and_from a (b && true) h (and_from b true k refl)

pub both-true : (a b : Bool) → a ≡ true → b ≡ true → (a && b) ≡ true
both-true true b h k = k
both-true false b h k = cc

pub and-first : (a b : Bool) → (a && b) ≡ true → a ≡ true
and-first true b h = refl
and-first false b h = cc

pub and-second : (a b : Bool) → (a && b) ≡ true → b ≡ true
and-second true b h = h
and-second false b h = cc

pub beq-turned : (a b : Bool) → beq a b ≡ true → beq b a ≡ true
beq-turned true true h = refl
beq-turned true false h = h
beq-turned false true h = h
beq-turned false false h = refl

pub not-false : (b : Bool) → not b ≡ false → b ≡ true
not-false true h = refl
not-false false h = absurd (true≢false h)

pub false-and : (b : Bool) → false ≡ (b && false)
false-and true = refl
false-and false = refl

pub tests-agree : (b d : Bool) → (b ≡ true → d ≡ true) → (d ≡ true → b ≡ true) → b ≡ d
tests-agree true d h k = sym (h refl)
tests-agree false true h k = k refl
tests-agree false false h k = refl

pub and-false : (t : Bool) → (t && false) ≡ false
and-false true = refl
and-false false = refl

pub or-false-true : (b : Bool) → (b || false) ≡ true → b ≡ true
or-false-true true h = refl
or-false-true false h = h

pub and-turned : (a b : Bool) → (a && b) ≡ (b && a)
and-turned true true = refl
and-turned true false = refl
and-turned false true = refl
and-turned false false = refl

pub not-not : (b : Bool) → not (not b) ≡ b
not-not true = refl
not-not false = refl

pub or-second : (a b : Bool) → b ≡ true → (a || b) ≡ true
or-second true b h = refl
or-second false b h = h

pub or-absorbed : (a b : Bool) → (a ≡ true → b ≡ true) → (a || b) ≡ b
or-absorbed true b h = sym (h refl)
or-absorbed false b h = refl

pub or-first : (b c : Bool) → b ≡ true → (b || c) ≡ true
or-first b c h = ap (λ t. t || c) h

pub or-either : (t u : Bool) → (t || u) ≡ true → (t ≡ true) ⊎ (u ≡ true)
or-either true u h = inl refl
or-either false u h = inr h

pub beq-self : (b : Bool) → beq b b ≡ true
beq-self true = refl
beq-self false = refl
