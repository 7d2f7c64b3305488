-- Facts about tests.
use Rattle.std.proofs.Common.{◌≡◌, Bool, true, false, ◌&&◌, refl}

pub first_fails : (t : Bool) → (t && true) ≡ false → t ≡ false
first_fails true h = h
first_fails false h = refl

pub first_passes : (t : Bool) → (t && true) ≡ true → t ≡ true
first_passes true h = refl
first_passes false h = h

pub second-false : (a b : Bool) → (a && b) ≡ false → a ≡ true → b ≡ false
second-false true b h e = h
second-false false b h e = absurd (let t : false ≡ true = e in cc)
