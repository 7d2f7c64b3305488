-- The signed names of parts. Parts are lists of literals; different ones stand in the order of their tags.
use Rattle.std.specs.Prelude.{Bool, false, not, ◌&&◌, List, [], ◌∷◌, map, fold, if◌then◌else◌}
use Rattle.plain_types.specs.declared.sequence.NameLit.{NameLit}
use Rattle.fol_base.specs.Clause.{TreeLiteral}
use Rattle.fol_base.specs.Ground.{is_ground_literal}
use Rattle.kernel_steps.specs.Derivation.{complement}
use Rattle.split_parts.specs.Tags.{with_part, tag_of}

-- one ground literal
abbrev pub is_ground_unit : List TreeLiteral → Bool
is_ground_unit [] = false
is_ground_unit (l ∷ []) = is_ground_literal l
is_ground_unit (l ∷ k ∷ ls) = false

-- one ground negative literal
abbrev pub is_ground_negative : List TreeLiteral → Bool
is_ground_negative [] = false
is_ground_negative (l ∷ []) = not l.positive && is_ground_literal l
is_ground_negative (l ∷ k ∷ ls) = false

-- the part that is named: of one ground negative literal the positive one with the same sides
abbrev pub affirmed : List TreeLiteral → List TreeLiteral
affirmed c = if is_ground_negative c then map complement c else c

-- the parts that are named, by their names: in the order of their first uses
abbrev pub named : List (List TreeLiteral) → List (List TreeLiteral)
named cs = fold with_part [] (map affirmed cs)

-- the signed name of a part that is there
abbrev pub signed_name : List (List TreeLiteral) → List TreeLiteral → NameLit
signed_name cs c = record { positive = not (is_ground_negative c); name = tag_of (named cs) (affirmed c) }
