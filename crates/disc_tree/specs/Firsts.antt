-- The answers of a test to the members of a list, one after another, up to the first that it accepts.
use Rattle.std.specs.Prelude.{◌≡◌, ◌⊎◌, true, List, [], ◌∷◌, Option, None, Result, Ok}
use Rattle.std.specs.Option.{is_some}

-- the test answers None to the members before one, and this to that one; None where it answers None to all
abbrev pub IsFirst : {X T E : Type 0} → (X → Result (Option T) E → Type 0) → List X → Option T → Type 0
IsFirst answers [] r = r ≡ None
IsFirst answers (x ∷ xs) r = (answers x (Ok None) × IsFirst answers xs r) ⊎ (answers x (Ok r) × (is_some r ≡ true))
