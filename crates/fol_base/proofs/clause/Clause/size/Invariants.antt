use Rattle.std.proofs.Common.{◌≡◌, ◌-◌, ◌^◌, min, map, take}
use Rattle.std.specs.Prelude.{sum_by}
use Rattle.fol_base.specs.Clause.{literal_size}
use Rattle.fol_base.specs.Literal.{literal_of}
use Rattle.fol_base.proofs.clause.Clause.size.Given as goal

abbrev pub invariant-loop-literal : goal.invariant-loop-literal
invariant-loop-literal l =
    l.total ≡ min (sum_by literal_size (map literal_of (take l.literal-index l.literal-items))) (2 ^ 64 - 1)
