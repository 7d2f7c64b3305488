-- Strict orders up to sameness.
use Rattle.std.specs.Prelude.{Bool, IsTrue, IsFalse}
use Rattle.std.specs.Cmp.{IsEquivalence}

-- exceeding is irreflexive and transitive, and things that are the same exceed the same things
pub record IsStrictOrder {X : Type 0} (same : X → X → Bool) (exceeds : X → X → Bool) : Type 0 where
  pub is_equivalence : IsEquivalence same
  pub same_left : (x y z : X) → IsTrue (same x y) → IsTrue (exceeds x z) → IsTrue (exceeds y z)
  pub same_right : (x y z : X) → IsTrue (same x y) → IsTrue (exceeds z x) → IsTrue (exceeds z y)
  pub is_irreflexive : (x : X) → IsFalse (exceeds x x)
  pub is_transitive : (x y z : X) → IsTrue (exceeds x y) → IsTrue (exceeds y z) → IsTrue (exceeds x z)
