use Rattle.std.proofs.Common.{◌≡◌, length, map}
use Rattle.fol_base.specs.Literal.{literal_of}
use Rattle.split_parts.specs.Forest.{Falls, IsJoined}
use Rattle.split_parts.proofs.parts.linked.Given as goal

abbrev pub invariant-loop-place : goal.invariant-loop-place
invariant-loop-place l =
    record {
      len : length l.links.items ≡ length l.literals;
      falls : Falls l.links.items;
      joined : IsJoined (map literal_of l.literals) l.place 0 l.links.items l.places;
    }
