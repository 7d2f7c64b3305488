-- Histories, and the places in them that a pass owns. A place is the index of an entry, from 0.
use Rattle.std.specs.Prelude.{◌≡◌, ◌≢◌, ℕ, ◌-◌, ◌<◌, ◌≤◌, ◌⊎◌, List, Some, length, slice_get, cond, leb}
use Rattle.std.specs.List.{AllPairs, Contains, range_with_len}
use mathlib.Core.List.{IsPrefix}

-- the longer of two lists, and the shorter; where they are equally long, the first is the longer one
abbrev pub longer : {E : Type 0} → List E → List E → List E
longer xs ys = cond (leb (length ys) (length xs)) xs ys

abbrev pub shorter : {E : Type 0} → List E → List E → List E
shorter xs ys = cond (leb (length ys) (length xs)) ys xs

-- the places of a history that were added since the old one
abbrev pub added_places : {E : Type 0} → List E → List E → List ℕ
added_places old new = range_with_len (length old) (length new - length old)

-- no place stands in both lists
abbrev pub AreApart : List ℕ → List ℕ → Type 0
AreApart own other = (place : ℕ) → Contains own place → Contains other place → ⊥

-- each place of the list was added since the old history, and stands in the new one
abbrev pub AreAdded : {E : Type 0} → List E → List E → List ℕ → Type 0
AreAdded old new own = (place : ℕ) → Contains own place → (length old ≤ place) × (place < length new)

-- no place stands twice in the list
abbrev pub IsDistinct : List ℕ → Type 0
IsDistinct places = AllPairs (λ p q. p ≢ q) places

-- The new history is the old one followed by entries at places of the list: it has each place that was added, once, and no other.
pub record OwnsAdded {E : Type 0} (old new : List E) (own : List ℕ) : Type 0 where
  pub begins : IsPrefix old new
  pub added : AreAdded old new own
  pub once : IsDistinct own
  pub all : (place : ℕ) → length old ≤ place → place < length new → Contains own place

module _ {E : Type 0} (key : E → ℕ) where
  -- each entry whose key is that of an entry at an owned place stands itself at an owned place
  abbrev pub OwnsKeys : List E → List ℕ → Type 0
  OwnsKeys log own = (i j : ℕ) (a b : E) → Contains own i → slice_get log i ≡ Some a → slice_get log j ≡ Some b → key b ≡ key a → Contains own j

  -- an entry at a place of the one list and an entry at a place of the other have two keys
  abbrev pub AreKeysApart : List E → List ℕ → List ℕ → Type 0
  AreKeysApart log own other = (i j : ℕ) (a b : E) → Contains own i → Contains other j → slice_get log i ≡ Some a → slice_get log j ≡ Some b → key a ≢ key b

  -- no entry has this key
  abbrev pub IsNewKey : List E → ℕ → Type 0
  IsNewKey log k = (i : ℕ) (a : E) → slice_get log i ≡ Some a → key a ≢ k

  -- an entry at an owned place has this key
  abbrev pub IsOwnedKey : List E → List ℕ → ℕ → Type 0
  IsOwnedKey log own k = (i : ℕ) × (a : E) × Contains own i × (slice_get log i ≡ Some a) × (key a ≡ k)

  -- each entry from the old history's end on has a key that was new then, or that of an entry at an owned place
  abbrev pub AddsOwnKeys : List E → List ℕ → List E → Type 0
  AddsOwnKeys old own new = (j : ℕ) (b : E) → length old ≤ j → slice_get new j ≡ Some b → IsNewKey old (key b) ⊎ IsOwnedKey old own (key b)
