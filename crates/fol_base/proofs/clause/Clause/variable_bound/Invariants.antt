use Rattle.std.proofs.Common.{◌≡◌, ◌≤◌, ◌^◌, map, take}
use Rattle.std.specs.Prelude.{flat_map}
use Rattle.fol_base.specs.Canonical.{bound_of}
use Rattle.fol_base.specs.Clause.{literal_variables}
use Rattle.fol_base.specs.Literal.{literal_of}
use Rattle.fol_base.proofs.clause.Clause.variable_bound.Given as goal

abbrev pub invariant-loop-literal : goal.invariant-loop-literal
invariant-loop-literal l =
    (l.bound ≡ bound_of (flat_map literal_variables (map literal_of (take l.literal-index l.literal-items)))) × (l.bound ≤ 2 ^ 32)
