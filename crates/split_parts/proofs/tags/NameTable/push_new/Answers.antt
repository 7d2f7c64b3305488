use Rattle.std.proofs.Common.{◌≡◌, false, List, [], ◌∷◌, ◌++◌, length, map, ap, ap₂, sym, ◌∙◌, arith}
use Rattle.std.specs.Prelude.{◌==◌, if◌then◌else◌}
use Rattle.std.specs.List.{list_any}
use Rattle.std.proofs.lemmas.Bool.{cond-false}
use Rattle.std.proofs.lemmas.List.{length-append}
use Rattle.std.proofs.lemmas.Result.{IfOk-at_ok}
use Rattle.plain_types.specs.declared.sequence.NameLit.{NameLit}
use Rattle.fol_base.specs.Clause.{TreeLiteral, literals_eq}
use Rattle.fol_base.specs.Literal.{literal_of}
use Rattle.split_parts.specs.declared.key.PartKey.{PartKey}
use Rattle.split_parts.specs.PartKeys.{key_part}
use Rattle.split_parts.specs.PartTable.{PartTable}
use Rattle.split_parts.specs.SignedNames.{signed_name}
use Rattle.split_parts.specs.TagEntries.{signed_names, first_tags}
use Rattle.split_parts.specs.Tags.{has_part, with_part, tag_of}
use Rattle.split_parts.proofs.AboutTags.EntryLemmas.{signed-end, firsts-end}
use Rattle.split_parts.proofs.AboutTags.TagLemmas.{key_parts, has-key, tag-new, key_parts-end, key_parts-length}
use Rattle.split_parts.proofs.tags.NameTable.push_new.Goals as goal

pub next_name-signed-requires-clause-new : goal.next_name-signed-requires-clause-new
next_name-signed-requires-clause-new c =
    ap (λ (xs : _). has_part (map literal_of xs) c.args.self.now.parts) c.as_slice.ensures ∙ c.requires.new

pub invariant_of-self : goal.invariant_of-self
invariant_of-self c =
    let keys : List PartKey = c.self.inside.parts.keys in
    let parts : List (List TreeLiteral) = key_parts keys in
    let part : List TreeLiteral = key_part c.args.part in
    let its : map literal_of c.as_slice.result.now ≡ part = ap (map literal_of) c.as_slice.ensures in
    let view : parts ≡ c.args.self.now.parts = ap (λ (t : PartTable). t.parts) c.self.view_is in
    let absent : list_any (λ k. literals_eq part (key_part k)) keys ≡ false = has-key part keys ∙ ap (has_part part) view ∙ c.requires.new in
    let inserted : c.insert_full.new.self.keys ≡ keys ++ c.args.part ∷ [] =
    IfOk-at_ok _ c.unwrap.ensures c.insert_full.ensures.keys
    ∙ cond-false (list_any (λ k. literals_eq part (key_part k)) keys) keys (keys ++ c.args.part ∷ []) absent in
    let grown : key_parts c.insert_full.new.self.keys ≡ parts ++ part ∷ [] = ap (map key_part) inserted ∙ key_parts-end keys c.args.part in
    let signed : c.next_name-signed.result ≡ signed_name (parts ++ part ∷ []) part =
    c.next_name-signed.ensures ∙ ap₂ (λ cs d. signed_name (cs ++ d ∷ []) d) (sym view) its in
    let tag : c.len-tag.result ≡ length parts = c.len-tag.ensures.len ∙ sym (key_parts-length keys) in (
      (let longer : length c.insert_full.new.self.keys ≡ length (keys ++ c.args.part ∷ []) = ap length inserted in
          let one = length-append keys (c.args.part ∷ []) in
          let room = ap (λ (t : PartTable). t.spare) c.self.view_is in
          let some = c.requires.room in omega (arith, longer, one, room, some)),
      c.push_reserved.ensures.items
          ∙ ap₂ (λ ns (n : NameLit). ns ++ n ∷ []) c.self.invariant.1 signed
          ∙ sym (signed-end parts part)
          ∙ ap signed_names (sym grown),
      c.note_first.ensures.items
          ∙ ap₂ (λ fs t. if c.next_name-signed.result.name == length fs then fs ++ t ∷ [] else fs) c.self.invariant.2 tag
          ∙ firsts-end parts part c.next_name-signed.result.name (ap (λ n. n.name) signed)
          ∙ ap first_tags (sym grown),
    )

pub returns-clause-added : goal.returns-clause-added
returns-clause-added c =
    let keys : List PartKey = c.self.inside.parts.keys in
    let parts : List (List TreeLiteral) = key_parts keys in
    let part : List TreeLiteral = key_part c.args.part in
    let new : has_part part parts ≡ false = ap (λ (t : PartTable). has_part part t.parts) c.self.view_is ∙ c.requires.new in
    ap (map key_part)
    (IfOk-at_ok _ c.unwrap.ensures c.insert_full.ensures.keys
    ∙ cond-false (list_any (λ k. literals_eq part (key_part k)) keys) keys (keys ++ c.args.part ∷ []) (has-key part keys ∙ new))
    ∙ key_parts-end keys c.args.part
    ∙ sym (cond-false (has_part part parts) parts (parts ++ part ∷ []) new)
    ∙ ap (λ (t : PartTable). with_part t.parts part) c.self.view_is

pub returns-clause-tag : goal.returns-clause-tag
returns-clause-tag c =
    let keys : List PartKey = c.self.inside.parts.keys in
    c.len-tag.ensures.len
    ∙ sym (key_parts-length keys)
    ∙ tag-new (key_part c.args.part) (key_parts keys)
    (ap (λ (t : PartTable). has_part (key_part c.args.part) t.parts) c.self.view_is ∙ c.requires.new)
    ∙ ap (λ (t : PartTable). tag_of t.parts (key_part c.args.part)) c.self.view_is
