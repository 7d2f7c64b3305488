use Rattle.std.proofs.Common.{◌<◌, length}
use Rattle.std.specs.Prelude.{All}
use Rattle.unifier.proofs.AboutLayouts.PlacingLemmas.{IsWalk}
use Rattle.unifier.proofs.placing.Placing.place_parts_first.Given as goal

abbrev pub invariant-loop-cell : goal.invariant-loop-cell
invariant-loop-cell l = All (λ i. i < length l.cells) l.due.items

abbrev pub invariant-loop : goal.invariant-loop
invariant-loop l = IsWalk l.cells l.classes l.initial.self l.self l.due.items l.entered.items
