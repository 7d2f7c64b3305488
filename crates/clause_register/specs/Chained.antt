-- Numbers from 0 on, chained by their keys: those of one key, from the newest to the oldest.
use Rattle.std.specs.Prelude.{◌≡◌, ℕ, zero, suc, ◌<◌, List, length, get_or, nat_eq, if◌then◌else◌}
use Rattle.std.specs.Option.{unwrap_or}
use Rattle.indexmap.specs.IndexMap.{get}
use Rattle.clause_register.specs.declared.chains.Chains.{Chains}

-- one more than the last number below n that has the key, or 0 where there is none
abbrev pub newest_below : ℕ → List ℕ → ℕ → ℕ
newest_below key keys zero = 0
newest_below key keys (suc n) = if nat_eq (get_or keys n 0) key then suc n else newest_below key keys n

-- Each number leads to the one before it of the same key, and the table leads to the newest of each key. The keys are told by their numbers.
pub record IsChained (chains : Chains) (keys : List ℕ) : Type 0 where
  pub count : length chains.older.items ≡ length keys
  pub links : (n : ℕ) → n < length keys → get_or chains.older.items n 0 ≡ newest_below (get_or keys n 0) keys n
  pub newest : (key : ℕ) → unwrap_or (get nat_eq chains.newest key) 0 ≡ newest_below key keys (length keys)
