use Rattle.std.proofs.Common.{◌≡◌, ◌<◌, ◌∙◌, List, [], ◌∷◌, ◌++◌, map, length, get_or, ap, sym, arith}
use Rattle.std.specs.Prelude.{not}
use Rattle.std.proofs.lemmas.Bool.{and_parts}
use Rattle.std.proofs.lemmas.List.{length-map}
use Rattle.fol_base.specs.Clause.{TreeLiteral}
use Rattle.fol_base.specs.Literal.{literal_of}
use Rattle.kernel_steps.specs.Derivation.{complement}
use Rattle.split_parts.specs.PartTable.{PartTable}
use Rattle.split_parts.specs.Tags.{has_part, tag_of}
use Rattle.split_parts.specs.SignedNames.{affirmed, is_ground_unit, named, signed_name}
use Rattle.split_parts.proofs.AboutTags.SignedLemmas.{named-few}
use Rattle.split_parts.proofs.AboutTags.EntryLemmas.{signed-at, name-before, name-anew}
use Rattle.split_parts.proofs.AboutTags.TagLemmas.{key_parts}
use Rattle.split_parts.proofs.tags.NameTable.next_name.Goals as goal

pub overflow_cast-name : goal.overflow_cast-name
overflow_cast-name c =
    let parts : List (List TreeLiteral) = key_parts c.self.inside.parts.keys in
    let count : length c.self.inside.firsts.items ≡ length (named c.args.self.now.parts) =
    ap length c.self.invariant.2
    ∙ length-map (named parts) (tag_of (map affirmed parts))
    ∙ ap (λ (t : PartTable). length (named t.parts)) c.self.view_is in
    let few = named-few c.args.self.now.parts in
    let limit = c.requires.few in
    let len = c.len.ensures in omega (arith, count, few, limit, len)

pub returns-in-Some : goal.returns-in-Some
returns-in-Some c =
    let parts : List (List TreeLiteral) = key_parts c.self.inside.parts.keys in
    let view : parts ≡ c.args.self.now.parts = ap (λ (t : PartTable). t.parts) c.self.view_is in
    let part : List TreeLiteral = map literal_of c.args.literals.now in
    let found = and_parts (is_ground_unit part) (has_part (map complement part) c.args.self.now.parts) (sym c.in-Some.ensures.found) in
    let below : c.in-Some.tag < length parts =
    (let same : length parts ≡ length c.args.self.now.parts = ap length view in omega (arith, same, c.in-Some.ensures.within)) in
    let name : c.index.result.now.name ≡ (signed_name (c.args.self.now.parts ++ part ∷ []) part).name =
    ap (λ n. n.name)
    (c.index.ensures
    ∙ ap (λ ns. get_or ns c.in-Some.tag c.index.result.now) c.self.invariant.1
    ∙ signed-at parts c.in-Some.tag c.index.result.now below
    ∙ ap (λ cs. signed_name cs (get_or cs c.in-Some.tag [])) view)
    ∙ name-before c.args.self.now.parts part c.in-Some.tag found.0 c.in-Some.ensures.within c.in-Some.ensures.part in
    (λ j. record { positive = not (c.is_ground_negative-positive.ensures j); name = name j })

pub returns-in-None : goal.returns-in-None
returns-in-None c =
    let parts : List (List TreeLiteral) = key_parts c.self.inside.parts.keys in
    let part : List TreeLiteral = map literal_of c.args.literals.now in
    let count : length c.self.inside.firsts.items ≡ length (named c.args.self.now.parts) =
    ap length c.self.invariant.2
    ∙ length-map (named parts) (tag_of (map affirmed parts))
    ∙ ap (λ (t : PartTable). length (named t.parts)) c.self.view_is in
    let len : c.len.result ≡ length (named c.args.self.now.parts) = (let is = c.len.ensures in omega (arith, is, count)) in
    let name : c.len.result ≡ (signed_name (c.args.self.now.parts ++ part ∷ []) part).name =
    len ∙ name-anew c.args.self.now.parts part c.requires.new (sym c.in-None.ensures.found) in
    (λ j. record { positive = not (c.is_ground_negative-positive.ensures j); name = name j })
