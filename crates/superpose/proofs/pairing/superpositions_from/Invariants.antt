use Rattle.std.proofs.Common.{◌≡◌, Some, take}
use Rattle.std.specs.Prelude.{slice_get}
use Rattle.literal_selection.specs.Mode.{mode_of}
use Rattle.superpose.specs.Pairing.{AddsTried, Begins, keys_from}
use Rattle.eq_rules.specs.declared.concluding.LiteralSide.{LiteralSide}
use Rattle.superpose.proofs.pairing.superpositions_from.Given as goal

abbrev pub invariant-loop-into : goal.invariant-loop-into
invariant-loop-into l =
    ((s : LiteralSide) → slice_get l.first.sites.now.from.items l.from ≡ Some s
    → AddsTried (mode_of l.first.sites.now.mode) l.first.member.now l.second.member.now
    (keys_from l.first.member.now.number s l.second.member.now.number (take l.into l.second.sites.now.into.items)) l.initial.found.items l.found.items)
    × Begins l.initial.found.items l.found.items
