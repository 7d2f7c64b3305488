-- The first member that a test accepts, in parts of a list.
use Rattle.std.proofs.Common.{◌≡◌, true, false, List, [], ◌∷◌, ◌++◌, Option, None, Some, Result, Ok, Err, IfOk, refl, subst, ⊎_elim, inl, inr}
use Rattle.disc_tree.specs.Firsts.{IsFirst}

pub first-more :
    {X T E : Type 0} (answers : X → Result (Option T) E → Type 0) (xs ys : List X) (r : Option T)
    → IsFirst answers xs None → IsFirst answers ys r → IsFirst answers (xs ++ ys) r
first-more answers [] ys r h k = k
first-more answers (x ∷ xs) ys r h k =
    ⊎_elim (λ refused. inl (refused.0, first-more answers xs ys r refused.1 k))
    (λ accepted. let wrong : false ≡ true = accepted.1 in absurd cc) h

pub first-stop :
    {X T E : Type 0} (answers : X → Result (Option T) E → Type 0) (xs ys : List X) (y : T)
    → IsFirst answers xs (Some y) → IsFirst answers (xs ++ ys) (Some y)
first-stop answers [] ys y h = absurd cc
first-stop answers (x ∷ xs) ys y h =
    ⊎_elim (λ refused. inl (refused.0, first-stop answers xs ys y refused.1)) (λ accepted. inr accepted) h

pub first-same :
    {X T E : Type 0} (answers : X → Result (Option T) E → Type 0) (xs ys : List X) (r : Result (Option T) E)
    → xs ≡ ys → IfOk r (IsFirst answers xs) → IfOk r (IsFirst answers ys)
first-same answers xs ys (Ok x) e h = subst (λ ns. IsFirst answers ns x) e h
first-same answers xs ys (Err x) e h = tt

pub first-after :
    {X T E : Type 0} (answers : X → Result (Option T) E → Type 0) (xs ys : List X) (r : Result (Option T) E)
    → IsFirst answers xs None → IfOk r (IsFirst answers ys) → IfOk r (IsFirst answers (xs ++ ys))
first-after answers xs ys (Ok x) h k = first-more answers xs ys x h k
first-after answers xs ys (Err x) h k = tt

pub none-first : {X T E : Type 0} (answers : X → Result (Option T) E → Type 0) → IsFirst answers [] None
none-first answers = refl
