-- The rule of a lock: what holds between any two atomic steps, whichever passes take them.
-- Word 0 is the gate, 0 while it is open. Word 1 is the length of the counted history. The one slot has the state, and is out with the pass that closed the gate.
use Rattle.std.specs.Prelude.{◌≡◌, ◌≢◌, ℕ, ◌+◌, ◌<◌, ◌≤◌, List, [], ◌∷◌, Option, Some, length}
use Rattle.std.specs.List.{Contains}
use mathlib.Core.Option.{Option as Opt, some}
use mathlib.Core.List.{IsPrefix}
use lib.ListN.{get_elem?}
use Rattle.atomic_table.specs.Table.{State}
use Rattle.turn_lock.specs.declared.view.View.{View}
use Rattle.turn_lock.specs.History.{OwnsKeys, AreAdded, IsDistinct}

-- how the lock was made: the history and the origin of its first state
pub record Made (E O : Type 0) : Type 0 where
  pub history : List E
  pub origin : O

-- the shares of all views together
abbrev pub all_shares : {E O : Type 0} → List (View E O) → ℕ
all_shares [] = 0
all_shares (v ∷ vs) = v.shares + all_shares vs

-- A closed gate is held by a view, which knows the counted history.
abbrev pub IsHeldBy : {E O : Type 0} → ℕ → List E → List (View E O) → Type 0
IsHeldBy {E} {O} holder log views = (v : View E O) × (get_elem? views holder ≡ some v) × (v.held ≡ Some log)

-- some view owns the place
abbrev pub IsOwned : {E O : Type 0} → ℕ → List (View E O) → Type 0
IsOwned {E} {O} place views = (j : ℕ) × (v : View E O) × (get_elem? views j ≡ some v) × Contains v.own place

-- An open gate has the state at home. Its history is the counted one, and its origin is the lock's.
abbrev pub IsHome : {S E O : Type 0} → (S → List E) → (S → O) → List E → O → List (Opt (Option S)) → Type 0
IsHome {S} history_of origin_of log origin homes = (x : S) × (homes ≡ some (Some x) ∷ []) × (history_of x ≡ log) × (origin_of x ≡ origin)

module _ {E O : Type 0} (key_of : E → ℕ) where
  -- A view that has a share is live: it is that of a pass, or of a turn.
  pub record IsLive (log : List E) (made : Made E O) (v : View E O) : Type 0 where
    -- what was seen begins the counted history
    pub begins : IsPrefix v.seen log
    pub shorter : IsPrefix v.shorter v.seen
    pub started : IsPrefix made.history v.seen
    -- owned places were added since the lock was made, and were seen, and each stands once in the list
    pub added : AreAdded made.history v.seen v.own
    pub once : IsDistinct v.own
    -- every entry with the key of an entry at an owned place stands at a place of the same view
    pub keys : OwnsKeys key_of log v.own
    -- the view knows how the lock was made, and so did the one with which it was joined
    pub start : v.start ≡ made.history
    pub origin : v.origin ≡ Some made.origin
    pub other_start : v.other_start ≡ made.history
    pub other_origin : v.other_origin ≡ Some made.origin

  -- Of the view of the seat j, where the seat `holder` is the one that may hold the gate.
  pub record IsKnown (gate holder : ℕ) (log : List E) (made : Made E O) (j : ℕ) (v : View E O) : Type 0 where
    -- whoever holds the gate is the holder of a closed gate, knows the counted history and is live
    pub holds : (h : List E) → v.held ≡ Some h → (gate ≢ 0) × (j ≡ holder) × (h ≡ log) × (0 < v.shares)
    pub live : 0 < v.shares → IsLive log made v
    -- a view with no share is spent: it holds no gate, by the first part, and no place
    pub spent : v.shares ≡ 0 → v.own ≡ []

module _ {S E O : Type 0} (history_of : S → List E) (origin_of : S → O) (key_of : E → ℕ) where
  -- Of how the lock was made, and of the table.
  pub record Turns (made : Made E O) (s : State (Option S) (View E O)) : Type 0 where
    pub gate : ℕ
    pub holder : ℕ
    -- the counted history, which only a raise changes, and only by a longer one
    pub log : List E
    pub begun : IsPrefix made.history log
    -- each entry that was added since the lock was made is some view's
    pub owned : (place : ℕ) → length made.history ≤ place → place < length log → IsOwned place s.views
    pub words : s.words ≡ gate ∷ length log ∷ []
    pub home : gate ≡ 0 → IsHome history_of origin_of log made.origin s.homes
    pub closed : gate ≢ 0 → IsHeldBy holder log s.views
    pub each : (j : ℕ) (v : View E O) → get_elem? s.views j ≡ some v → IsKnown key_of gate holder log made j v
    -- no two views own one place
    pub apart : (i j k : ℕ) (v w : View E O) → get_elem? s.views i ≡ some v → get_elem? s.views j ≡ some w → Contains v.own k → Contains w.own k → i ≡ j
    -- the shares add up
    pub whole : all_shares s.views ≡ 1024
