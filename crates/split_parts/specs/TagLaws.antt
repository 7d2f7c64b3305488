-- Laws of tags.
use Rattle.std.specs.Prelude.{◌≡◌, List, Some, IsTrue, slice_get}
use Rattle.fol_base.specs.Clause.{TreeLiteral}
use Rattle.split_parts.specs.Tags.{has_part, with_part, tag_of}

-- different parts have different tags
abbrev pub TagsTellParts : Type 0
TagsTellParts =
    (cs : List (List TreeLiteral)) (c d : List TreeLiteral)
    → IsTrue (has_part c cs) → IsTrue (has_part d cs) → tag_of cs c ≡ tag_of cs d → c ≡ d

-- a part keeps its tag when another is met
abbrev pub TagsStay : Type 0
TagsStay = (cs : List (List TreeLiteral)) (c d : List TreeLiteral) → IsTrue (has_part c cs) → tag_of (with_part cs d) c ≡ tag_of cs c

-- a part that is met is there
abbrev pub MetPartsAreThere : Type 0
MetPartsAreThere = (cs : List (List TreeLiteral)) (c : List TreeLiteral) → IsTrue (has_part c (with_part cs c))

-- and stands at its tag
abbrev pub PartsStandAtTheirTags : Type 0
PartsStandAtTheirTags = (cs : List (List TreeLiteral)) (c : List TreeLiteral) → slice_get (with_part cs c) (tag_of cs c) ≡ Some c
