-- Texts that are added one after the other.
use Rattle.std.proofs.Common.{Result, Ok, Err, IfOk, ◌≡◌, ℕ, List, ◌++◌, ap, subst, ◌∙◌}
use Rattle.std.proofs.lemmas.List.{append_assoc}

joined : (old m n x y : List ℕ) → m ≡ old ++ x → n ≡ m ++ y → n ≡ old ++ (x ++ y)
joined old m n x y e f = f ∙ ap (λ t. t ++ y) e ∙ append_assoc old x y

-- the last of them may fail
pub two_added :
    {E : Type 0} (r : Result (Unit {0}) E) (old m n x y : List ℕ) → m ≡ old ++ x → IfOk r (λ _. n ≡ m ++ y) → IfOk r (λ _. n ≡ old ++ (x ++ y))
two_added (Ok u) old m n x y e f = joined old m n x y e f
two_added (Err k) old m n x y e f = tt

pub three_added :
    {E : Type 0} (r : Result (Unit {0}) E) (old p q n x y z : List ℕ)
    → p ≡ old ++ x → q ≡ p ++ y → IfOk r (λ _. n ≡ q ++ z) → IfOk r (λ _. n ≡ old ++ (x ++ y ++ z))
three_added r old p q n x y z e f g = two_added r old q n (x ++ y) z (joined old p q x y e f) g

pub four_added :
    {E : Type 0} (r : Result (Unit {0}) E) (old p q s n x y z w : List ℕ)
    → p ≡ old ++ x → q ≡ p ++ y → s ≡ q ++ z → IfOk r (λ _. n ≡ s ++ w) → IfOk r (λ _. n ≡ old ++ (x ++ y ++ z ++ w))
four_added r old p q s n x y z w e f g h = three_added r old q s n (x ++ y) z w (joined old p q x y e f) g h

pub five_added :
    {E : Type 0} (r : Result (Unit {0}) E) (old p q s t n x y z w v : List ℕ)
    → p ≡ old ++ x → q ≡ p ++ y → s ≡ q ++ z → t ≡ s ++ w → IfOk r (λ _. n ≡ t ++ v)
    → IfOk r (λ _. n ≡ old ++ (x ++ y ++ z ++ w ++ v))
five_added r old p q s t n x y z w v e f g h k = four_added r old q s t n (x ++ y) z w v (joined old p q x y e f) g h k

-- the second by other names of what it is made of
pub two_added_by :
    {E : Type 0} (r : Result (Unit {0}) E) (old m n x : List ℕ) (f : List ℕ → List ℕ → List ℕ) (w v s t : List ℕ)
    → w ≡ v → s ≡ t → m ≡ old ++ x → IfOk r (λ _. n ≡ m ++ f w s) → IfOk r (λ _. n ≡ old ++ (x ++ f v t))
two_added_by r old m n x f w v s t e d h k =
    subst (λ u. IfOk r (λ _. n ≡ old ++ (x ++ f u t))) e
    (subst (λ u. IfOk r (λ _. n ≡ old ++ (x ++ f w u))) d (two_added r old m n x (f w s) h k))
