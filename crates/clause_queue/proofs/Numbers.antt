-- Between what the pairs have and what the search tree knows of them.
use Rattle.std.proofs.Common.{◌≡◌, ℕ, zero, suc, ◌<◌, ◌≤◌, List, [], ◌∷◌, length, get_or, Contains, refl, arith}
use Rattle.std.specs.List.{AllByRecursion}
use Rattle.std.proofs.lemmas.List.Elements.{All-from_recursion, All-contains, All-map, Contains-append_right}
use Rattle.clause_queue.specs.Order.{IsNoHeavier}
use Rattle.clause_queue.specs.Pairs.{with_pair, numbers, IsAbsent}
use Rattle.clause_queue.specs.Node.{MayStandBelow, IsTopOf}
use Rattle.clause_queue.specs.Pick.{IsPick}
use Rattle.clause_queue.specs.declared.choice.Choice.{Choice}
use Rattle.clause_queue.specs.declared.choice.Choice.TheVariants.{Light, Old}
use Rattle.clause_queue.proofs.PairsLemmas.{with_pair_cases, all-with_pair, all-weaker}

pub absent_from : (n : ℕ) (ps : List (ℕ × ℕ)) → (Contains (numbers ps) n → ⊥) → IsAbsent n ps
absent_from n [] lacks = tt
absent_from n (p ∷ ps) lacks =
    (λ same. lacks (0, omega arith, same), absent_from n ps (λ has. lacks (Contains-append_right (p.0 ∷ []) (numbers ps) n has)))

lacks_at : (n : ℕ) (ps : List (ℕ × ℕ)) → IsAbsent n ps → (k : ℕ) → k < length (numbers ps) → get_or (numbers ps) k n ≡ n → ⊥
lacks_at n [] absent k below at = absurd (omega arith)
lacks_at n (p ∷ ps) absent zero below at = absent.0 at
lacks_at n (p ∷ ps) absent (suc k) below at = lacks_at n ps absent.1 k (omega arith) at

pub lacks_from : (n : ℕ) (ps : List (ℕ × ℕ)) → IsAbsent n ps → Contains (numbers ps) n → ⊥
lacks_from n ps absent has = lacks_at n ps absent has.0 has.1 has.2

pub contains-with_pair : (p : ℕ × ℕ) (qs : List (ℕ × ℕ)) → Contains (with_pair p qs) p
contains-with_pair p [] = (0, omega arith, refl)
contains-with_pair p (q ∷ qs) =
    with_pair_cases (λ l. Contains l p) p q qs (λ _. (0, omega arith, refl)) (λ _. Contains-append_right (q ∷ []) (with_pair p qs) p (contains-with_pair p qs))

pub contains_number-with_pair : (p : ℕ × ℕ) (qs : List (ℕ × ℕ)) → Contains (numbers (with_pair p qs)) p.0
contains_number-with_pair p [] = (0, omega arith, refl)
contains_number-with_pair p (q ∷ qs) =
    with_pair_cases (λ l. Contains (numbers l) p.0) p q qs (λ _. (0, omega arith, refl))
    (λ _. Contains-append_right (q.0 ∷ []) (numbers (with_pair p qs)) p.0 (contains_number-with_pair p qs))

pub light_pick : (p : ℕ × ℕ) (rest : List (ℕ × ℕ)) → IsTopOf p rest → IsPick Light (with_pair p rest) p.0
light_pick p rest top = (
  p.1,
  contains-with_pair p rest,
  All-from_recursion (IsNoHeavier p) (with_pair p rest)
      (all-with_pair (IsNoHeavier p) p rest (omega arith, λ tie. omega arith) (all-weaker (MayStandBelow p) (IsNoHeavier p) (λ q below. (omega arith, λ tie. omega arith)) rest top)),
)

pub old_pick : (p : ℕ × ℕ) (rest : List (ℕ × ℕ)) → AllByRecursion (λ q. p.0 ≤ q.0) (with_pair p rest) → IsPick Old (with_pair p rest) p.0
old_pick p rest least = (contains_number-with_pair p rest, All-from_recursion (λ q. p.0 ≤ q.0) (with_pair p rest) least)

-- a choice picks one number
pub pick_unique : (choice : Choice) (ps : List (ℕ × ℕ)) (m n : ℕ) → IsPick choice ps m → IsPick choice ps n → m ≡ n
pick_unique Light ps m n first other =
    let below = All-contains (IsNoHeavier (m, first.0)) ps (n, other.0) first.2 other.1 in
    let above = All-contains (IsNoHeavier (n, other.0)) ps (m, first.0) other.2 first.1 in
    omega (arith, below.0, below.1, above.0, above.1)
pick_unique Old ps m n first other =
    let below = All-contains (λ k. m ≤ k) (numbers ps) n (All-map (λ k. m ≤ k) (λ p. p.0) ps first.1) other.0 in
    let above = All-contains (λ k. n ≤ k) (numbers ps) m (All-map (λ k. n ≤ k) (λ p. p.0) ps other.1) first.0 in
    omega arith
