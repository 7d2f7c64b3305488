-- The balance of a walk down two terms: the symbols and variables that it has met more often on one side than on the other.
use Rattle.std.specs.Prelude.{◌≡◌, ℕ, ◌+◌, ◌^◌, ◌<◌, ◌≤◌, ◌==◌, ◌⊎◌, Bool, true, false, nat_lt, if◌then◌else◌, List, [], slice_index, length, sum_by}
use Rattle.fol_base.specs.Tree.{Trees, trees_size, trees_variables}
use Rattle.fol_base.specs.declared.clause.Side.{Side}
use Rattle.fol_base.specs.declared.clause.Side.TheVariants.{Left, Right}
use Rattle.fol_base.specs.Multiset.{times}
use Rattle.kbo_order.specs.declared.cmp.Cmp.{Cmp}
use Rattle.kbo_order.specs.declared.cmp.Cmp.TheVariants.{Greater, Less, Equal, Unordered}
use Rattle.kbo_order.specs.declared.balance.Balance.{Balance}

-- the number of counts above the level, and of those below
abbrev pub above_level : List ℕ → ℕ
above_level counts = sum_by (λ n. if nat_lt (2 ^ 63) n then 1 else 0) counts

abbrev pub below_level : List ℕ → ℕ
below_level counts = sum_by (λ n. if nat_lt n (2 ^ 63) then 1 else 0) counts

-- the two numbers that a balance keeps of its counts are right
pub record Consistent (balance : Balance) : Type 0 where
  pub width : length balance.counts ≡ 32
  pub more_left : balance.more_left ≡ above_level balance.counts
  pub more_right : balance.more_right ≡ below_level balance.counts

-- n more occurrences can be counted, on either side
pub record HasRoom (balance : Balance) (n : ℕ) : Type 0 where
  pub weight_up : balance.weight + n < 2 ^ 64
  pub weight_down : n ≤ balance.weight
  pub up : (k : ℕ) → k < 32 → slice_index balance.counts k + n < 2 ^ 64
  pub down : (k : ℕ) → k < 32 → n ≤ slice_index balance.counts k

-- as much was met on either side, of all occurrences and of each variable of the block
pub record IsLevel (balance : Balance) : Type 0 where
  pub consistent : Consistent balance
  pub weight : balance.weight ≡ 2 ^ 63
  pub counts : (k : ℕ) → k < 32 → slice_index balance.counts k ≡ 2 ^ 63

-- after variables and n occurrences in all were met on the left, and others on the right
pub record Met (before after : Balance) (lefts : List ℕ) (n : ℕ) (rights : List ℕ) (m : ℕ) : Type 0 where
  pub start : after.start ≡ before.start
  pub consistent : Consistent after
  pub weight : after.weight + m ≡ before.weight + n
  pub counts : (k : ℕ) → k < 32
      → slice_index after.counts k + times ◌==◌ (before.start + k) rights ≡ slice_index before.counts k + times ◌==◌ (before.start + k) lefts
  pub left_numbers : (v : ℕ) → 2 ^ 32 ≤ v → times ◌==◌ v lefts ≡ 0
  pub right_numbers : (v : ℕ) → 2 ^ 32 ≤ v → times ◌==◌ v rights ≡ 0
  pub next_falls : after.next ≤ before.next
  pub next_past : before.start + 32 ≤ before.next → before.start + 32 ≤ after.next
  pub left_least : (v : ℕ) → before.start + 32 ≤ v → v < after.next → times ◌==◌ v lefts ≡ 0
  pub right_least : (v : ℕ) → before.start + 32 ≤ v → v < after.next → times ◌==◌ v rights ≡ 0

-- after they were met on one side
abbrev pub MetOn : Side → Balance → Balance → List ℕ → ℕ → Type 0
MetOn Left before after variables n = Met before after variables n [] 0
MetOn Right before after variables n = Met before after [] 0 variables n

-- a list of trees is variables and n occurrences in all, and then the rest of it
pub record IsBefore (variables : List ℕ) (n : ℕ) (rest whole : Trees) : Type 0 where
  pub split : (v : ℕ) → times ◌==◌ v (trees_variables whole) ≡ times ◌==◌ v variables + times ◌==◌ v (trees_variables rest)
  pub size : trees_size whole ≡ n + trees_size rest
  pub within : (v : ℕ) → times ◌==◌ v variables ≤ n

-- after two lists of trees were met except for a rest of each
pub record PartlyMet (before after : Balance) (lefts left_rest rights right_rest : Trees) : Type 0 where
  pub left_variables : List ℕ
  pub left_size : ℕ
  pub right_variables : List ℕ
  pub right_size : ℕ
  pub left : IsBefore left_variables left_size left_rest lefts
  pub right : IsBefore right_variables right_size right_rest rights
  pub met : Met before after left_variables left_size right_variables right_size

-- More stands on the right than was met on the left, if variables and n occurrences in all are met there yet: all together, or
-- a variable of the block. All together are as many as the least weight tells.
abbrev pub IsShort : ℕ → Balance → List ℕ → ℕ → Type 0
IsShort least balance variables n =
    (balance.weight < least + n)
    ⊎ ((k : ℕ) × (k < 32) × (slice_index balance.counts k < 2 ^ 63 + times ◌==◌ (balance.start + k) variables))

-- whether they were met on the right, or told to be too many
abbrev pub Covers : Bool → ℕ → Balance → Balance → List ℕ → ℕ → Type 0
Covers true least before after variables n = Met before after [] 0 variables n
Covers false least before after variables n = IsShort least before variables n

-- whether no more was met on the right than on the left
abbrev pub IsCovered : Bool → ℕ → Balance → Type 0
IsCovered true least balance = (least ≤ balance.weight) × (balance.more_right ≡ 0)
IsCovered false least balance = IsShort least balance [] 0

-- the greater number decides, and between equal ones the tie
abbrev pub by_size : ℕ → ℕ → Cmp → Cmp
by_size n m tie = if nat_lt m n then Greater else (if nat_lt n m then Less else tie)

-- only a term that has each variable as often as the other one is greater
abbrev pub by_variables : ℕ → ℕ → Cmp → Cmp
by_variables more_left more_right Greater = if more_right == 0 then Greater else Unordered
by_variables more_left more_right Less = if more_left == 0 then Less else Unordered
by_variables more_left more_right Equal = Equal
by_variables more_left more_right Unordered = Unordered
