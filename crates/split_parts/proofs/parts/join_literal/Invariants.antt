use Rattle.std.proofs.Common.{map}
use Rattle.fol_base.specs.Literal.{literal_of}
use Rattle.split_parts.specs.Forest.{Falls, IsJoined}
use Rattle.split_parts.proofs.parts.join_literal.Given as goal

abbrev pub invariant-loop-variable : goal.invariant-loop-variable
invariant-loop-variable l =
    record {
      falls : Falls l.links;
      joined : IsJoined (map literal_of l.literals) l.place l.variable-index l.links l.places;
    }
