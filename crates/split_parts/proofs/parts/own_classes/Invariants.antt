use Rattle.std.proofs.Common.{◌≡◌, ℕ, ◌<◌, length}
use Rattle.std.specs.Prelude.{slice_index}
use Rattle.split_parts.proofs.parts.own_classes.Given as goal

abbrev pub invariant-loop-place : goal.invariant-loop-place
invariant-loop-place l =
    record {
      len : length l.links.items ≡ l.place;
      own : (j : ℕ) → j < l.place → slice_index l.links.items j ≡ j;
    }
