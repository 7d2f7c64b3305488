use Rattle.std.proofs.Common.{◌≡◌, drop}
use Rattle.unifier.specs.Layout.{cell_of}
use Rattle.unifier.proofs.resolving.place_among.Given as goal

abbrev pub invariant-loop-place : goal.invariant-loop-place
invariant-loop-place l = cell_of l.code (drop l.place-index l.places) ≡ cell_of l.code l.places
