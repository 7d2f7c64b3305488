-- What a table keeps of tags and names. Only private functions cite this.
use Rattle.std.specs.Prelude.{ℕ, ◌-◌, ◌^◌, min, List, length, map, vec_len, vec_capacity}
use Rattle.indexmap.specs.IndexSet.{spare}
use Rattle.plain_types.specs.declared.sequence.NameLit.{NameLit}
use Rattle.fol_base.specs.Clause.{TreeLiteral}
use Rattle.split_parts.specs.PartKeys.{key_part}
use Rattle.split_parts.specs.PartTable.{PartTable}
use Rattle.split_parts.specs.SignedNames.{affirmed, named, signed_name}
use Rattle.split_parts.specs.Tags.{tag_of}
use Rattle.split_parts.specs.declared.tags.NameTable.TheInside.{Inside}

-- There is a tag below 2^32 - 1 for each further part, and a place in the set and in both lists.
abbrev pub table_of : Inside → PartTable
table_of a = record {
  parts = map key_part a.parts.keys;
  spare =
      min (2 ^ 32 - 1 - length a.parts.keys)
      (min (spare a.parts) (min (vec_capacity a.signed - vec_len a.signed) (vec_capacity a.firsts - vec_len a.firsts)));
}

-- the signed names of all parts, by their tags
abbrev pub signed_names : List (List TreeLiteral) → List NameLit
signed_names cs = map (signed_name cs) cs

-- for each name the tag of the first part that has it
abbrev pub first_tags : List (List TreeLiteral) → List ℕ
first_tags cs = map (tag_of (map affirmed cs)) (named cs)
