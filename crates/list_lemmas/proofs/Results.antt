-- `Option` and `Result`: what their clauses say of a value.
use Rattle.std.proofs.Common.{Err, None, Ok, Option, Result, Some, false, refl, subst, suc, sym, true, ℕ, ◌≡◌}
use Rattle.std.proofs.lemmas.Bool.{true≢false}
use Rattle.std.specs.Option.{is_some, option_map}
use Rattle.std.specs.Prelude.{IfErr, IfNone, IfOk, IfSome, IsErrAnd, IsOk, OnErr, OnOk}

pub on-err : {X E A : Type 0} (r : Result X E) → A → OnErr r A
on-err (Ok x) h = tt
on-err (Err e) h = h

pub some-there : {X : Type 0} (o : Option X) → is_some o ≡ true → (x : X) × (o ≡ Some x)
some-there None h = absurd (true≢false (sym h))
some-there (Some x) h = (x, refl)

pub some-mapped : (o : Option ℕ) → is_some (option_map suc o) ≡ true → is_some o ≡ true
some-mapped None h = h
some-mapped (Some k) h = refl

pub on-ok-at : {A E P : Type 0} (r : Result A E) (x : A) → r ≡ Ok x → OnOk r P → P
on-ok-at {A} {E} {P} r x is h = subst (λ (s : Result A E). OnOk s P) is h

pub ok-unless : {A B : Type 0} (r : Result A B) (X : Type 0) → OnErr r X → (X → ⊥) → IsOk r
ok-unless (Ok x) X h k = refl
ok-unless (Err y) X h k = absurd (k h)

pub when-ok : {A B : Type 0} (r : Result A B) (x : A) (X : Type 0) → r ≡ Ok x → OnOk r X → X
when-ok (Ok y) x X e h = h
when-ok (Err y) x X e h = cc

pub ok-then : {A B : Type 0} (r : Result A B) (P Q : A → Type 0) → ((x : A) → P x → Q x) → IfOk r P → IfOk r Q
ok-then (Ok x) P Q h k = h x k
ok-then (Err y) P Q h k = tt

pub not-some : (o : Option ℕ) → is_some o ≡ false → o ≡ None
not-some None h = refl
not-some (Some x) h = absurd (true≢false h)

pub err-passed : {Y E : Type 0} (q : Result Y E) (fault : E) (P : E → Type 0) → IsErrAnd q (λ e. e ≡ fault) → P fault → IfErr q P
err-passed (Ok y) fault P e h = tt
err-passed (Err x) fault P e h = subst P (sym e) h

pub err-then : {Y E : Type 0} (q : Result Y E) (P Q : E → Type 0) → ((x : E) → P x → Q x) → IfErr q P → IfErr q Q
err-then (Ok y) P Q f h = tt
err-then (Err x) P Q f h = f x h

pub some-holds : {T : Type 0} (o : Option T) (t : T) (P : T → Type 0) → IfSome o P → o ≡ Some t → P t
some-holds o t P h e = subst (λ x. IfSome x P) e h

pub none-holds : {T : Type 0} (o : Option T) (P : Type 0) → IfNone o P → o ≡ None → P
none-holds o P h e = subst (λ x. IfNone x P) e h
