-- What holds of a result that is Ok.
use Rattle.std.specs.Prelude.{Result, Ok, Err, IfOk}

pub ok-then : {T E : Type 0} (r : Result T E) {P Q : T → Type 0} → ((x : T) → P x → Q x) → IfOk r P → IfOk r Q
ok-then (Ok x) f h = f x h
ok-then (Err e) f h = tt

pub ok-both : {T E : Type 0} (r : Result T E) {P Q R : T → Type 0} → ((x : T) → P x → Q x → R x) → IfOk r P → IfOk r Q → IfOk r R
ok-both (Ok x) f h k = f x h k
ok-both (Err e) f h k = tt
