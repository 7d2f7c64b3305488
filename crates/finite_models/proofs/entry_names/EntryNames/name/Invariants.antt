use Rattle.std.proofs.Common.{◌≡◌, map, take}
use Rattle.finite_models.specs.Digits.{digits_number}
use Rattle.finite_models.specs.Flattening.{value_in}
use Rattle.finite_models.proofs.entry_names.EntryNames.name.Given as goal

abbrev pub invariant-loop-slot : goal.invariant-loop-slot
invariant-loop-slot l = l.place ≡ digits_number l.self.size (map (value_in l.values) (take l.slot-index l.slots))
