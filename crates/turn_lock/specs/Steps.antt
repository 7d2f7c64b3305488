-- The views that the steps make, and what each step tells.
use Rattle.std.specs.Prelude.{◌≡◌, ◌≢◌, ℕ, ◌+◌, ◌-◌, ◌≤◌, List, [], ◌∷◌, ◌++◌, Option, Some, None, length}
use mathlib.Core.List.{IsPrefix}
use Rattle.atomic_table.specs.Table.{Me, Step}
use Rattle.turn_lock.specs.declared.view.View.{View}
use Rattle.turn_lock.specs.History.{OwnsKeys, AreAdded, IsDistinct, longer, shorter, added_places}

module _ {E O : Type 0} where
  -- the first pass of a lock, which is made with this history and this origin
  abbrev pub first_view : List E → O → View E O
  first_view log first = record { seen = log; own = []; shares = 1024; start = log; origin = Some first; held = None; planned = 0; shorter = []; other_start = log; other_origin = Some first }

  abbrev pub holding : View E O → List E → View E O
  holding v log = record { seen = v.seen; own = v.own; shares = v.shares; start = v.start; origin = v.origin; held = Some log; planned = v.planned; shorter = v.shorter; other_start = v.other_start; other_origin = v.other_origin }

  -- the pass has added what the history has beyond the old one
  abbrev pub raised : View E O → List E → List E → View E O
  raised v old log = record { seen = log; own = v.own ++ added_places old log; shares = v.shares; start = v.start; origin = v.origin; held = Some log; planned = v.planned; shorter = v.shorter; other_start = v.other_start; other_origin = v.other_origin }

  abbrev pub released : View E O → View E O
  released v = record { seen = v.seen; own = v.own; shares = v.shares; start = v.start; origin = v.origin; held = None; planned = v.planned; shorter = v.shorter; other_start = v.other_start; other_origin = v.other_origin }

  abbrev pub planning : View E O → ℕ → View E O
  planning v n = record { seen = v.seen; own = v.own; shares = v.shares; start = v.start; origin = v.origin; held = v.held; planned = n; shorter = v.shorter; other_start = v.other_start; other_origin = v.other_origin }

  -- the planned shares go to a second pass, which has seen the same and owns nothing
  abbrev pub kept_part : View E O → View E O
  kept_part v = record { seen = v.seen; own = v.own; shares = v.shares - v.planned; start = v.start; origin = v.origin; held = v.held; planned = 0; shorter = v.shorter; other_start = v.other_start; other_origin = v.other_origin }

  abbrev pub given_part : View E O → View E O
  given_part v = record { seen = v.seen; own = []; shares = v.planned; start = v.start; origin = v.origin; held = None; planned = 0; shorter = v.shorter; other_start = v.other_start; other_origin = v.other_origin }

  abbrev pub joined : View E O → View E O → View E O
  joined v w = record { seen = longer v.seen w.seen; own = v.own ++ w.own; shares = v.shares + w.shares; start = v.start; origin = v.origin; held = v.held; planned = 0; shorter = shorter v.seen w.seen; other_start = w.start; other_origin = w.origin }

  abbrev pub spent_view : View E O
  spent_view = record { seen = []; own = []; shares = 0; start = []; origin = None; held = None; planned = 0; shorter = []; other_start = []; other_origin = None }

-- the seat holds the gate, with the state, which goes on from what was seen
abbrev pub IsSeized : {S E O : Type 0} → (S → List E) → (S → O) → (E → ℕ) → Me (Option S) (View E O) → Me (Option S) (View E O) → Type 0
IsSeized {S} history_of origin_of key_of before after = (x : S) × (after ≡ (holding before.0 (history_of x), (0, Some x) ∷ [])) × IsPrefix before.0.seen (history_of x)
    × (before.0.origin ≡ Some (origin_of x)) × IsPrefix before.0.start before.0.seen × AreAdded before.0.start before.0.seen before.0.own × OwnsKeys key_of (history_of x) before.0.own

-- where the gate was closed already, nothing changed
abbrev pub Seizes : {S E O : Type 0} → (S → List E) → (S → O) → (E → ℕ) → Step (Option S) → Me (Option S) (View E O) → ℕ → Me (Option S) (View E O) → Type 0
Seizes history_of origin_of key_of step before found after = (found ≡ 0 → IsSeized history_of origin_of key_of before after) × (found ≢ 0 → after ≡ before)

-- the seat has seen its state's whole history, and owns what was added, and its keys
abbrev pub Raises : {S E O : Type 0} → (S → List E) → (E → ℕ) → Step (Option S) → Me (Option S) (View E O) → ℕ → Me (Option S) (View E O) → Type 0
Raises {S} {E} history_of key_of step before stored after = (x : S) (old : List E) → before.1 ≡ (0, Some x) ∷ [] → before.0.held ≡ Some old → (after ≡ (raised before.0 old (history_of x), before.1)) × AreAdded after.0.start after.0.seen after.0.own × OwnsKeys key_of after.0.seen after.0.own

abbrev pub Releases : {S E O : Type 0} → Step (Option S) → Me (Option S) (View E O) → ℕ → Me (Option S) (View E O) → Type 0
Releases step before stored after = after ≡ (released before.0, [])

abbrev pub Plans : {S E O : Type 0} → Step (Option S) → Me (Option S) (View E O) → ℕ → Me (Option S) (View E O) → Type 0
Plans step before found after = after ≡ (planning before.0 step.first, before.1)

-- What the pass has seen begins the counted history, of this length, and has the keys of the pass. The last join was with a pass of the same lock.
pub record IsKnownOf {E O : Type 0} (key_of : E → ℕ) (n : ℕ) (v : View E O) : Type 0 where
  pub counted : length v.seen ≤ n
  pub added : AreAdded v.start v.seen v.own
  pub once : IsDistinct v.own
  pub keys : OwnsKeys key_of v.seen v.own
  pub shorter : IsPrefix v.shorter v.seen
  pub start : v.other_start ≡ v.start
  pub origin : v.other_origin ≡ v.origin

abbrev pub Looks : {S E O : Type 0} → (E → ℕ) → Step (Option S) → Me (Option S) (View E O) → ℕ → Me (Option S) (View E O) → Type 0
Looks key_of step before found after = (after ≡ before) × IsKnownOf key_of found before.0
