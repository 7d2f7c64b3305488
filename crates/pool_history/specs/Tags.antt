-- Tags, and the names that stand for them on lines. A tag is the place of a part among those that were met.
use Rattle.std.specs.Prelude.{ℕ, List, [], map, length, slice_index_or}
use Rattle.plain_types.specs.declared.sequence.NameLit.{NameLit}
use Rattle.plain_types.specs.Names.{opposite}
use Rattle.fol_base.specs.Clause.{TreeLiteral}
use Rattle.fol_base.specs.Subsumption.{assertions}
use Rattle.kernel_steps.specs.Names.{sorted_names}
use Rattle.split_parts.specs.SignedNames.{named, signed_name}

-- the signed name of a tag
abbrev pub name_of_tag : List (List TreeLiteral) → ℕ → NameLit
name_of_tag parts tag = signed_name parts (slice_index_or parts tag [])

-- the number of names
abbrev pub name_count : List (List TreeLiteral) → ℕ
name_count parts = length (named parts)

-- A clause lists its assertions as negative names whose numbers are tags. Its line has the opposites of their signed names.
abbrev pub line_names : List (List TreeLiteral) → List NameLit → List NameLit
line_names parts names = sorted_names (map (λ tag. opposite (name_of_tag parts tag)) (assertions names))
