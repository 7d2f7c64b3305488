-- Where a term stands that may be rewritten: at the root of an atom's side, of an equation's side, or below (as `src/spot.rt` has it).
use Rattle.std.specs.Prelude.{◌<◌, option_map, IfSome}
use Rattle.fol_base.specs.Tree.{tree_size}
use Rattle.fol_base.specs.Term.{tree_of}
use Rattle.fol_base.specs.declared.limits.TheConstants.{SIZE_LIMIT}
use Rattle.rewriting.specs.Redex as redex
use Rattle.rewriting.specs.declared.spot.Spot.{Spot}

abbrev pub spot_of : Spot → redex.Spot
spot_of s = record { is_atom = s.is_atom; limit = option_map (λ t. tree_of t.now) s.limit }

-- the limit is no huge term
abbrev pub LimitFits : redex.Spot → Type 0
LimitFits s = IfSome s.limit (λ t. tree_size t < SIZE_LIMIT)
