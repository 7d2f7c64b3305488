use Rattle.std.proofs.Common.{◌≡◌, map, take}
use Rattle.std.specs.Prelude.{flat_map}
use Rattle.fol_base.specs.Clause.{literal_variables}
use Rattle.fol_base.specs.Lent.{lent_of}
use Rattle.kernel_steps.proofs.split.variables_of.Given as goal

abbrev pub invariant-loop-literal : goal.invariant-loop-literal
invariant-loop-literal l = l.found.items ≡ flat_map literal_variables (map lent_of (take l.literal-index l.part))
