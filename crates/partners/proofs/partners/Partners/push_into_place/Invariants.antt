use Rattle.std.proofs.Common.{◌≡◌, Some, take}
use Rattle.std.specs.Prelude.{slice_get}
use Rattle.superpose.specs.Pairing.{Begins}
use Rattle.superpose.specs.declared.sites.LiteralPlace.{LiteralPlace}
use Rattle.partners.specs.Meeting.{AddsNamed, name_from, names}
use Rattle.partners.proofs.partners.Partners.push_into_place.Given as goal

abbrev pub invariant-loop-candidate : goal.invariant-loop-candidate
invariant-loop-candidate l =
    ((t : LiteralPlace) → slice_get l.given.sites.now.into.items l.into ≡ Some t
    → AddsNamed l.bound l.self l.given.member.now
    (names (name_from l.bound l.self l.given.member.now.number t) (take l.candidate-index l.candidate-items)) l.initial.found.items l.found.items)
    × Begins l.initial.found.items l.found.items
