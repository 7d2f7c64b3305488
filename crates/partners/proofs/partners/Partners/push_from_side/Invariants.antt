use Rattle.std.proofs.Common.{◌≡◌, Some, take}
use Rattle.std.specs.Prelude.{slice_get}
use Rattle.eq_rules.specs.declared.concluding.LiteralSide.{LiteralSide}
use Rattle.superpose.specs.Pairing.{Begins}
use Rattle.partners.specs.Meeting.{AddsNamed, name_into, names}
use Rattle.partners.proofs.partners.Partners.push_from_side.Given as goal

abbrev pub invariant-loop-candidate : goal.invariant-loop-candidate
invariant-loop-candidate l =
    ((s : LiteralSide) → slice_get l.given.sites.now.from.items l.from ≡ Some s
    → AddsNamed l.bound l.self l.given.member.now
    (names (name_into l.bound l.self l.given.member.now.number s) (take l.candidate-index l.candidate-items)) l.initial.found.items l.found.items)
    × Begins l.initial.found.items l.found.items
