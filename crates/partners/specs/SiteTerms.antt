-- Sites as terms.
use Rattle.std.specs.Prelude.{List, Option, option_map, option_and_then, slice_get}
use Rattle.fol_base.specs.Tree.{Tree}
use Rattle.fol_base.specs.Clause.{TreeLiteral}
use Rattle.fol_base.specs.Place.{subterm}
use Rattle.fol_base.specs.Sides.{side_of}
use Rattle.eq_rules.specs.declared.concluding.LiteralSide.{LiteralSide}
use Rattle.superpose.specs.declared.sites.LiteralPlace.{LiteralPlace}

-- the side
abbrev pub start_term : List TreeLiteral → LiteralSide → Option Tree
start_term ls s = option_map (side_of s.side) (slice_get ls s.literal)

-- the term at the place
abbrev pub place_term : List TreeLiteral → LiteralPlace → Option Tree
place_term ls t = option_and_then (subterm t.place) (start_term ls t.at)
