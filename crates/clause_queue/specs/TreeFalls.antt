-- Each side of a node has fewer pairs than the node's place.
use Rattle.std.specs.Prelude.{◌≡◌, ℕ, ◌+◌, nat_lt, cond, true, false, List, [], ◌∷◌, length}
use Rattle.std.proofs.Common.{arith, refl}
use Rattle.clause_queue.specs.Pairs.{with_pair}

-- one more pair
pub length-with_pair : (p : ℕ × ℕ) (qs : List (ℕ × ℕ)) → length (with_pair p qs) ≡ length qs + 1
length-with_pair p [] = refl
length-with_pair p (q ∷ qs) =
    elim (nat_lt p.0 q.0) as (λ b. length (cond b (p ∷ q ∷ qs) (q ∷ with_pair p qs)) ≡ length (q ∷ qs) + 1) [
      | true ↦ omega arith
      | false ↦ omega (arith, length-with_pair p qs)
    ]
