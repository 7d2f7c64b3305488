use Rattle.std.proofs.Common.{◌≡◌, ℕ, ◌<◌, length}
use Rattle.std.specs.Prelude.{slice_index}
use Rattle.split_parts.specs.Forest.{IsColouring, IsGrouped}
use Rattle.split_parts.proofs.parts.grouped.Given as goal

abbrev pub invariant-loop-place : goal.invariant-loop-place
invariant-loop-place l =
    record {
      len : length l.slots.items ≡ l.place;
      within : (j : ℕ) → j < l.place → slice_index l.slots.items j < length l.parts.items;
      grouped : (colour : ℕ → ℕ) → IsColouring colour l.links → IsGrouped colour l.place l.slots.items l.parts.items;
    }
