use Rattle.std.proofs.Common.{◌≡◌, drop}
use Rattle.fol_base.specs.Clause.{names_eq}
use Rattle.fol_base.proofs.equality.same_names.Given as goal

abbrev pub invariant-loop-index : goal.invariant-loop-index
invariant-loop-index l = names_eq (drop l.index l.left) (drop l.index l.right) ≡ names_eq l.left l.right
