use Rattle.std.proofs.Common.{◌≡◌, ◌≤◌, ◌^◌, take}
use Rattle.fol_base.specs.Canonical.{bound_of}
use Rattle.fol_base.proofs.numbering.Numbering.bound.Given as goal

abbrev pub invariant-loop-variable : goal.invariant-loop-variable
invariant-loop-variable l = (l.bound ≡ bound_of (take l.variable-index l.variable-items)) × (l.bound ≤ 2 ^ 32)
