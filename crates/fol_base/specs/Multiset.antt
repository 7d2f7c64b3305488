-- Lists as multisets, and the extension of an order to them (Dershowitz and Manna 1979).
use Rattle.std.specs.Prelude.{◌≡◌, ℕ, ◌<◌, ◌≤◌, Bool, not, ◌&&◌, ◌||◌, ◌==◌, nat_lt, if◌then◌else◌, List, ◌++◌, ◌⊎◌, count_by, IsTrue, IsFalse, Contains, All}
use Rattle.std.specs.Cmp.{IsEquivalence}
use Rattle.std.specs.List.{list_any, list_all}

-- the outcomes of a comparison in a partial order
pub data Comparison : Type 0 where
  greater : Comparison
  less : Comparison
  equal : Comparison
  unordered : Comparison

-- the outcome for x and y, by a test of equality and a test of being greater
abbrev pub compared : {X : Type 0} → (X → X → Bool) → (X → X → Bool) → X → X → Comparison
compared same exceeds x y =
    if same x y then equal else (if exceeds x y then greater else (if exceeds y x then less else unordered))

-- how often something stands in a list
abbrev pub times : {X : Type 0} → (X → X → Bool) → X → List X → ℕ
times same x xs = count_by (same x) xs

-- each element stands in both equally often
abbrev pub same_multiset : {X : Type 0} → (X → X → Bool) → List X → List X → Bool
same_multiset same xs ys = list_all (λ z. times same z xs == times same z ys) (xs ++ ys)

-- z stands more often in xs than in ys
abbrev pub more_often : {X : Type 0} → (X → X → Bool) → List X → List X → X → Bool
more_often same xs ys z = nat_lt (times same z ys) (times same z xs)

-- where ys has y more often, xs has something greater more often
abbrev pub outdone : {X : Type 0} → (X → X → Bool) → (X → X → Bool) → List X → List X → X → Bool
outdone same exceeds xs ys y = not (more_often same ys xs y) || list_any (λ x. more_often same xs ys x && exceeds x y) xs

-- xs is greater than ys: they differ, and for each element that ys has more often there is a greater one that xs has more often
abbrev pub multiset_greater : {X : Type 0} → (X → X → Bool) → (X → X → Bool) → List X → List X → Bool
multiset_greater same exceeds xs ys = not (same_multiset same xs ys) && list_all (outdone same exceeds xs ys) ys

-- ---- these tests as types, for proofs

abbrev pub SameMultiset : {X : Type 0} → (X → X → Bool) → List X → List X → Type 0
SameMultiset same xs ys = All (λ z. times same z xs ≡ times same z ys) (xs ++ ys)

-- something greater that xs has more often
pub record Outdoing {X : Type 0} (same : X → X → Bool) (exceeds : X → X → Bool) (xs : List X) (ys : List X) (y : X) : Type 0 where
  pub by : X
  pub there : Contains xs by
  pub more : times same by ys < times same by xs
  pub exceeds_it : IsTrue (exceeds by y)

pub record MultisetGreater {X : Type 0} (same : X → X → Bool) (exceeds : X → X → Bool) (xs : List X) (ys : List X) : Type 0 where
  pub differ : IsFalse (same_multiset same xs ys)
  pub each_outdone : All (λ y. (times same y ys ≤ times same y xs) ⊎ Outdoing same exceeds xs ys y) ys

-- ---- total orders

-- `exceeds` is a total order, up to the equality `same`, on the elements that satisfy `Within`.
pub record IsTotalOrderOn {X : Type 0} (same : X → X → Bool) (exceeds : X → X → Bool) (Within : X → Type 0) : Type 0 where
  pub is_equivalence : IsEquivalence same
  pub same_left : (x y z : X) → Within x → Within y → Within z → IsTrue (same x y) → IsTrue (exceeds x z) → IsTrue (exceeds y z)
  pub same_right : (x y z : X) → Within x → Within y → Within z → IsTrue (same x y) → IsTrue (exceeds z x) → IsTrue (exceeds z y)
  pub is_irreflexive : (x : X) → IsFalse (exceeds x x)
  pub is_transitive : (x y z : X) → Within x → Within y → Within z → IsTrue (exceeds x y) → IsTrue (exceeds y z) → IsTrue (exceeds x z)
  pub is_total : (x y : X) → Within x → Within y → IsTrue (same x y) ⊎ (IsTrue (exceeds x y) ⊎ IsTrue (exceeds y x))
