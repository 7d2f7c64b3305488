use Rattle.std.proofs.Common.{true, take}
use Rattle.superpose.specs.Pairing.{Begins}
use Rattle.partners.specs.Meeting.{MeetsAllStarts}
use Rattle.partners.proofs.partners.Partners.push_into.Given as goal

abbrev pub invariant-loop-into : goal.invariant-loop-into
invariant-loop-into l =
    MeetsAllStarts true l.bound l.self l.given.member.now (take l.into l.given.sites.now.into.items) l.initial.found.items l.found.items
    × Begins l.initial.found.items l.found.items
