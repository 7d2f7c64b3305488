use Rattle.std.proofs.Common.{true, false, not, map, ap, ap₂, sym, ◌∙◌}
use Rattle.fol_base.specs.Literal.{literal_of}
use Rattle.split_parts.specs.PartTable.{PartTable}
use Rattle.split_parts.specs.Tags.{has_part, with_part, tag_of}
use Rattle.split_parts.proofs.AboutTags.TagLemmas.{told, tag-found, parts-same}
use Rattle.split_parts.proofs.tags.NameTable.name_of.Goals as goal

pub returns-in-Some-clause-added : goal.returns-in-Some-clause-added
returns-in-Some-clause-added c =
    parts-same (map literal_of c.args.part.now.literals) c.args.self.now.parts
    (told _ _ c.self.inside.parts.keys _ true (ap (map literal_of) c.as_slice-literals.ensures) (ap (λ (t : PartTable). t.parts) c.self.view_is)
    c.in-Some.ensures.found)

pub returns-in-Some-clause-tag : goal.returns-in-Some-clause-tag
returns-in-Some-clause-tag c =
    tag-found (map literal_of c.as_slice-literals.result.now) c.self.inside.parts.keys c.in-Some.tag c.in-Some.ensures.index
    ∙ ap (λ (t : PartTable). tag_of t.parts (map literal_of c.as_slice-literals.result.now)) c.self.view_is
    ∙ ap (λ (xs : _). tag_of c.args.self.now.parts (map literal_of xs)) c.as_slice-literals.ensures

pub returns-in-Some-clause-new : goal.returns-in-Some-clause-new
returns-in-Some-clause-new c =
    ap not
    (sym (told _ _ c.self.inside.parts.keys _ true (ap (map literal_of) c.as_slice-literals.ensures) (ap (λ (t : PartTable). t.parts) c.self.view_is)
    c.in-Some.ensures.found))

pub push_new-requires-clause-new : goal.push_new-requires-clause-new
push_new-requires-clause-new c =
    ap₂ has_part (c.in_ok-key.ensures ∙ ap (map literal_of) c.as_slice-literals.ensures) c.reserve.ensures.parts
    ∙ told _ (map literal_of c.args.part.now.literals) c.self.inside.parts.keys c.args.self.now.parts false
    (ap (map literal_of) c.as_slice-literals.ensures) (ap (λ (t : PartTable). t.parts) c.self.view_is) c.in_default.ensures.found

pub returns-clause-added : goal.returns-clause-added
returns-clause-added c =
    c.push_new.ensures.added
    ∙ ap₂ with_part c.reserve.ensures.parts (c.in_ok-key.ensures ∙ ap (map literal_of) c.as_slice-literals.ensures)

pub returns-clause-tag : goal.returns-clause-tag
returns-clause-tag c =
    c.push_new.ensures.tag ∙ ap₂ tag_of c.reserve.ensures.parts (c.in_ok-key.ensures ∙ ap (map literal_of) c.as_slice-literals.ensures)

pub returns-clause-new : goal.returns-clause-new
returns-clause-new c =
    ap not
    (sym (told _ (map literal_of c.args.part.now.literals) c.self.inside.parts.keys c.args.self.now.parts false
    (ap (map literal_of) c.as_slice-literals.ensures) (ap (λ (t : PartTable). t.parts) c.self.view_is) c.in_default.ensures.found))
