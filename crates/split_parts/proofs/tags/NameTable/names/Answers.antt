use Rattle.std.proofs.Common.{◌≡◌, ◌∙◌, List, length, map, ap, arith}
use Rattle.std.proofs.lemmas.List.{length-map}
use Rattle.fol_base.specs.Clause.{TreeLiteral}
use Rattle.split_parts.specs.PartTable.{PartTable}
use Rattle.split_parts.specs.SignedNames.{affirmed, named}
use Rattle.split_parts.specs.Tags.{tag_of}
use Rattle.split_parts.proofs.AboutTags.SignedLemmas.{named-few}
use Rattle.split_parts.proofs.AboutTags.TagLemmas.{key_parts, key_parts-length}
use Rattle.split_parts.proofs.tags.NameTable.names.Goals as goal

pub overflow_cast-result : goal.overflow_cast-result
overflow_cast-result c =
    let parts : List (List TreeLiteral) = key_parts c.self.inside.parts.keys in
    let count : length c.self.inside.firsts.items ≡ length (named parts) =
    ap length c.self.invariant.2 ∙ length-map (named parts) (tag_of (map affirmed parts)) in
    let len = c.len.ensures in
    omega (arith, count, named-few parts, key_parts-length c.self.inside.parts.keys, c.self.invariant.0, len)

pub returns : goal.returns
returns c =
    let parts : List (List TreeLiteral) = key_parts c.self.inside.parts.keys in
    let count : length c.self.inside.firsts.items ≡ length (named c.args.self.now.parts) =
    ap length c.self.invariant.2
    ∙ length-map (named parts) (tag_of (map affirmed parts))
    ∙ ap (λ (t : PartTable). length (named t.parts)) c.self.view_is in
    let len = c.len.ensures in omega (arith, count, len)
