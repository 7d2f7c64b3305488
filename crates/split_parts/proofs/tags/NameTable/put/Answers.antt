use Rattle.std.proofs.Common.{true, false, not, map, ap, sym, ◌∙◌}
use Rattle.fol_base.specs.Literal.{literal_of}
use Rattle.split_parts.specs.PartKeys.{key_part}
use Rattle.split_parts.specs.PartTable.{PartTable}
use Rattle.split_parts.specs.Tags.{tag_of}
use Rattle.split_parts.proofs.AboutTags.TagLemmas.{key_parts, told, tag-found, parts-same}
use Rattle.split_parts.proofs.tags.NameTable.put.Goals as goal

pub returns-in-Some-clause-added : goal.returns-in-Some-clause-added
returns-in-Some-clause-added c =
    parts-same (key_part c.args.part) c.args.self.now.parts
    (told _ (key_part c.args.part) c.self.inside.parts.keys c.args.self.now.parts true
    (ap (map literal_of) c.as_slice-literals.ensures) (ap (λ (t : PartTable). t.parts) c.self.view_is) c.in-Some.ensures.found)

pub returns-in-Some-clause-tag : goal.returns-in-Some-clause-tag
returns-in-Some-clause-tag c =
    tag-found (map literal_of c.as_slice-literals.result.now) c.self.inside.parts.keys c.in-Some.tag c.in-Some.ensures.index
    ∙ ap (λ (xs : _). tag_of (key_parts c.self.inside.parts.keys) (map literal_of xs)) c.as_slice-literals.ensures
    ∙ ap (λ (t : PartTable). tag_of t.parts (key_part c.args.part)) c.self.view_is

pub returns-in-Some-clause-new : goal.returns-in-Some-clause-new
returns-in-Some-clause-new c =
    ap not
    (sym (told _ (key_part c.args.part) c.self.inside.parts.keys c.args.self.now.parts true
    (ap (map literal_of) c.as_slice-literals.ensures) (ap (λ (t : PartTable). t.parts) c.self.view_is) c.in-Some.ensures.found))

pub push_new-requires-clause-new : goal.push_new-requires-clause-new
push_new-requires-clause-new c =
    told _ (key_part c.args.part) c.self.inside.parts.keys c.args.self.now.parts false
    (ap (map literal_of) c.as_slice-literals.ensures) (ap (λ (t : PartTable). t.parts) c.self.view_is) c.in_default.ensures.found

pub returns-clause-new : goal.returns-clause-new
returns-clause-new c =
    ap not
    (sym (told _ (key_part c.args.part) c.self.inside.parts.keys c.args.self.now.parts false
    (ap (map literal_of) c.as_slice-literals.ensures) (ap (λ (t : PartTable). t.parts) c.self.view_is) c.in_default.ensures.found))
