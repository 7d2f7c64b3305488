use Rattle.std.proofs.Common.{true, take}
use Rattle.superpose.specs.Pairing.{Begins}
use Rattle.partners.specs.Meeting.{MeetsAllPlaces}
use Rattle.partners.proofs.partners.Partners.push_from.Given as goal

abbrev pub invariant-loop-from : goal.invariant-loop-from
invariant-loop-from l =
    MeetsAllPlaces true l.bound l.self l.given.member.now (take l.from l.given.sites.now.from.items) l.initial.found.items l.found.items
    × Begins l.initial.found.items l.found.items
