use Rattle.std.proofs.Common.{◌≡◌, map, take}
use Rattle.fol_base.specs.Literal.{clause_of, literal_of}
use Rattle.pool_core.specs.Parted.{parts_at}
use Rattle.pool_core.proofs.input_parts.parts_at.Given as goal

abbrev pub invariant-loop-places : goal.invariant-loop-places
invariant-loop-places l = map clause_of l.clauses.items ≡ parts_at (map literal_of l.literals) (take l.places-index l.parts)
