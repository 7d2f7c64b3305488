use Rattle.std.proofs.Common.{take}
use Rattle.literal_selection.specs.Mode.{mode_of}
use Rattle.superpose.specs.Pairing.{AddsTried, Begins, keys_between}
use Rattle.superpose.proofs.pairing.push_superpositions.Given as goal

abbrev pub invariant-loop-from : goal.invariant-loop-from
invariant-loop-from l =
    AddsTried (mode_of l.first.sites.now.mode) l.first.member.now l.second.member.now
    (keys_between l.first.member.now.number (take l.from l.first.sites.now.from.items) l.second.member.now.number l.second.sites.now.into.items)
    l.initial.found.items l.found.items
    × Begins l.initial.found.items l.found.items
