-- Sides and places by their parts, for the worked examples.
use Rattle.std.specs.Prelude.{ℕ, List}
use Rattle.fol_base.specs.declared.clause.Side.{Side}
use Rattle.eq_rules.specs.declared.concluding.LiteralSide.{LiteralSide}
use Rattle.superpose.specs.declared.sites.LiteralPlace.{LiteralPlace}

abbrev pub side_at : ℕ → Side → LiteralSide
side_at i s = record { literal = i; side = s }

abbrev pub place_at : ℕ → Side → List ℕ → LiteralPlace
place_at i s place = record { at = side_at i s; place = place }
