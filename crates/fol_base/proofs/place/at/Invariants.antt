use Rattle.std.proofs.Common.{◌≡◌, drop}
use Rattle.fol_base.specs.Place.{subterm}
use Rattle.fol_base.specs.Term.{tree_of}
use Rattle.fol_base.proofs.place.at.Given as goal

abbrev pub invariant-loop-number : goal.invariant-loop-number
invariant-loop-number l =
    subterm (drop l.number-index l.number-items) (tree_of l.found) ≡ subterm l.place (tree_of l.initial.found)
