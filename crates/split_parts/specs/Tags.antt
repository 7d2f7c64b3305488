-- The tags of parts. Parts are lists of literals; different ones stand in the order of their tags.
use Rattle.std.specs.Prelude.{ℕ, Bool, List, [], ◌∷◌, ◌++◌, if◌then◌else◌}
use Rattle.std.specs.List.{list_any, position_or_len}
use Rattle.fol_base.specs.Clause.{TreeLiteral, literals_eq}

abbrev pub has_part : List TreeLiteral → List (List TreeLiteral) → Bool
has_part c cs = list_any (literals_eq c) cs

-- a part that is met for the first time comes last
abbrev pub with_part : List (List TreeLiteral) → List TreeLiteral → List (List TreeLiteral)
with_part cs c = if has_part c cs then cs else cs ++ c ∷ []

-- the tag of a part that is there: its place; of another one, the next tag
abbrev pub tag_of : List (List TreeLiteral) → List TreeLiteral → ℕ
tag_of cs c = position_or_len (literals_eq c) cs
