use Rattle.std.proofs.Common.{◌≡◌, map, take}
use Rattle.fol_base.specs.Literal.{literal_of}
use Rattle.kernel_steps.specs.Derivation.{complement}
use Rattle.pool_writer.proofs.introduced.complements.Given as goal

abbrev pub invariant-loop-literal : goal.invariant-loop-literal
invariant-loop-literal l = map literal_of l.made ≡ map complement (map literal_of (take l.literal-index l.literals))
