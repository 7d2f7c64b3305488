use Rattle.std.proofs.Common.{◌≡◌, map, drop}
use Rattle.fol_base.specs.Literal.{literal_of}
use Rattle.split_parts.specs.PartHash.{part_hash}
use Rattle.split_parts.proofs.hash.part_hash.Given as goal

abbrev pub invariant-loop-literal : goal.invariant-loop-literal
invariant-loop-literal l =
    part_hash l.hash (map literal_of (drop l.literal-index l.literals)) ≡ part_hash 0 (map literal_of l.literals)
