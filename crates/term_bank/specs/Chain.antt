-- How a table finds a tree: the entries whose trees have one hash are chained, from the newest to the oldest.
use Rattle.std.specs.Prelude.{◌≡◌, ℕ, zero, suc, ◌<◌, List, length, get_or, nat_eq, if◌then◌else◌}
use Rattle.std.specs.Option.{unwrap_or}
use Rattle.std.specs.Map.{lookup}
use Rattle.fol_base.specs.Tree.{Tree, variable}
use Rattle.term_bank.specs.Hash.{tree_hash}

-- the hash of the tree at a place
abbrev pub hash_at : List (Tree × ℕ) → ℕ → ℕ
hash_at es i = tree_hash 0 (get_or es i (variable 0, 0)).0

-- one more than the last place below n whose tree has the hash h, or 0 where there is none
abbrev pub newest_below : ℕ → List (Tree × ℕ) → ℕ → ℕ
newest_below h es zero = 0
newest_below h es (suc n) = if nat_eq (hash_at es n) h then suc n else newest_below h es n

-- Each entry leads to the one before it of the same hash, and the heads lead to the newest of each hash.
pub record IsChained (es : List (Tree × ℕ)) (older : List ℕ) (heads : List (ℕ × ℕ)) : Type 0 where
  pub links : (i : ℕ) → i < length es → get_or older i 0 ≡ newest_below (hash_at es i) es i
  pub newest : (h : ℕ) → unwrap_or (lookup (nat_eq h) heads) 0 ≡ newest_below h es (length es)
