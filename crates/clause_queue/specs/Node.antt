-- What a place of the search tree is seen as, and what holds of it.
use Rattle.std.specs.Prelude.{◌≡◌, ◌≢◌, ℕ, ◌<◌, ◌≤◌, ◌⊎◌, List, [], ◌++◌, Option, Some, None, Box}
use Rattle.std.specs.List.{AllByRecursion}
use Rattle.std.specs.declared.alloc.Global.{Global}
use Rattle.clause_queue.specs.Order.{IsLighter, IsNoHeavier}
use Rattle.clause_queue.specs.Pairs.{with_pair}
use Rattle.clause_queue.specs.declared.tree.Entry.{Entry}
use Rattle.clause_queue.specs.declared.tree.Node.{Node}

-- the number and the size
abbrev pub pair_of : Entry → ℕ × ℕ
pair_of e = (e.number, e.size)

-- the pairs of a place, in the order of their numbers
abbrev pub pairs_of : Option (Box Node Global) → List (ℕ × ℕ)
pairs_of None = []
pairs_of (Some b) = with_pair (pair_of b.value.entry) (b.value.lower ++ b.value.upper)

-- q may stand below p: it is heavier, and has another number
abbrev pub MayStandBelow : ℕ × ℕ → ℕ × ℕ → Type 0
MayStandBelow p q = IsLighter p q × (q.0 ≢ p.0)

-- the node's entry is the lightest, and the numbers are divided at the node's split
pub record IsPlaced (n : Node) : Type 0 where
  pub lower_below : AllByRecursion (MayStandBelow (pair_of n.entry)) n.lower
  pub upper_below : AllByRecursion (MayStandBelow (pair_of n.entry)) n.upper
  pub lower_side : AllByRecursion (λ q. q.0 < n.split) n.lower
  pub upper_side : AllByRecursion (λ q. n.split ≤ q.0) n.upper

-- an empty place is sound, and any other where its node is placed
abbrev pub IsSound : Option (Box Node Global) → Type 0
IsSound None = Unit {0}
IsSound (Some b) = IsPlaced b.value

-- a node that holds nothing below it
pub record IsBare (b : Box Node Global) : Type 0 where
  pub no_lower : b.value.lower ≡ []
  pub no_upper : b.value.upper ≡ []

-- of p above q, what is put above and below, so that the lighter is above
abbrev pub IsSettled : ℕ × ℕ → ℕ × ℕ → ℕ × ℕ → ℕ × ℕ → Type 0
IsSettled p q above below = ((above ≡ p) × (below ≡ q) × IsNoHeavier p q) ⊎ ((above ≡ q) × (below ≡ p) × IsLighter q p)

-- p may stand above all of the pairs
abbrev pub IsTopOf : ℕ × ℕ → List (ℕ × ℕ) → Type 0
IsTopOf p ps = AllByRecursion (MayStandBelow p) ps

-- the bare node b was taken out of the old pairs, and the new ones are left
pub record Takes (b : Box Node Global) (old new : List (ℕ × ℕ)) : Type 0 where
  pub bare : IsBare b
  pub is : old ≡ with_pair (pair_of b.value.entry) new

-- what is no heavier than one side is no heavier than the other, and the one is empty only where both are
pub record Leads (side other : List (ℕ × ℕ)) : Type 0 where
  pub over : (p : ℕ × ℕ) → AllByRecursion (IsNoHeavier p) side → AllByRecursion (IsNoHeavier p) other
  pub empty : side ≡ [] → other ≡ []
