use Rattle.std.proofs.Common.{◌≡◌, map, take}
use Rattle.fol_base.specs.Term.{tree_of}
use Rattle.herbrand_list.specs.Worked.{stopped_size}
use Rattle.herbrand_list.proofs.sizes.sizes_of.Given as goal

abbrev pub invariant-loop-term : goal.invariant-loop-term
invariant-loop-term l = l.sizes.items ≡ map stopped_size (map tree_of (take l.term-index l.terms))
