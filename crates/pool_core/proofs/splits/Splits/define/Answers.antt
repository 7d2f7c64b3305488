use Rattle.std.proofs.Common.{◌≡◌, ℕ, ◌<◌, ◌++◌, [], ◌∷◌, List, length, get_or, refl, ap, ap₂, sym, ◌∙◌, subst}
use Rattle.std.specs.Prelude.{not, ◌==◌, if◌then◌else◌}
use Rattle.plain_types.specs.declared.sequence.NameLit.{NameLit}
use Rattle.fol_base.specs.Clause.{TreeLiteral}
use Rattle.kernel_steps.specs.declared.step.Step.TheVariants.{Component, Opposite}
use Rattle.split_parts.specs.PartKeys.{key_part}
use Rattle.split_parts.specs.SignedNames.{named}
use Rattle.split_parts.specs.Tags.{has_part, tag_of, with_part}
use Rattle.pool_history.specs.Record.{PoolRecord}
use Rattle.pool_history.specs.Tags.{name_count}
use Rattle.pool_core.specs.Splits.{split_view}
use Rattle.pool_core.proofs.AboutSplits.NewPartLemmas.{defined-new, is-new, name-listed, same-tag, signed-is, tag-within}
use Rattle.pool_core.proofs.splits.Splits.define.Goals as goal

pub signed-signed-requires : goal.signed-signed-requires
signed-signed-requires c =
    subst (λ n. n < length c.put-tag.new.self.parts) (sym c.put-tag.ensures.tag)
    (subst (λ (cs : List (List TreeLiteral)). tag_of c.args.self.now.parts.parts (key_part c.args.part) < length cs) (sym c.put-tag.ensures.added)
    (tag-within c.args.self.now.parts.parts (key_part c.args.part)))

pub definition_line-line-requires-clause-there : goal.definition_line-line-requires-clause-there
definition_line-line-requires-clause-there c =
    let r : PoolRecord = (c.requires.told).0 in
    let is = (c.requires.told).1 in
    let part : List TreeLiteral = key_part c.args.part in
    let signed = signed-is c.args.self.now.parts.parts c.put-tag.new.self.parts r.parts part c.put-tag.result.0 c.signed-signed.result
    is.splits.parts c.put-tag.ensures.added c.put-tag.ensures.tag c.signed-signed.ensures in
    let names : c.names-names.result ≡ name_count r.parts = c.names-names.ensures ∙ ap (λ cs. length (named cs)) is.splits.parts in
    subst (λ (n : NameLit). n.name < length c.deref.result.now) (sym signed)
    (name-listed (split_view c.args.self.now) c.args.steps.now.items r part c.deref.result.now (length c.args.steps.now.items) is
    (is-new (has_part part r.parts) c.put-tag.result.1 (c.put-tag.ensures.new ∙ ap (λ cs. not (has_part part cs)) is.splits.parts) c.if-is_new.true)
    (c.deref.ensures.value ∙ c.note_component.ensures.lines
    ∙ ap₂ (λ (n k : ℕ). if n == k then c.args.self.now.component_lines.items ++ length c.args.steps.now.items ∷ [] else c.args.self.now.component_lines.items)
    (ap (λ (n : NameLit). n.name) signed) names))

pub returns-then-is_new-clause-tag : goal.returns-then-is_new-clause-tag
returns-then-is_new-clause-tag c =
    c.put-tag.ensures.tag
    ∙ sym (ap (λ cs. tag_of cs (key_part c.args.part)) c.put-tag.ensures.added ∙ same-tag c.args.self.now.parts.parts (key_part c.args.part))

pub returns-then-is_new-clause-defined : goal.returns-then-is_new-clause-defined
returns-then-is_new-clause-defined c = λ r is.
    let part : List TreeLiteral = key_part c.args.part in
    let signed = signed-is c.args.self.now.parts.parts c.put-tag.new.self.parts r.parts part c.put-tag.result.0 c.signed-signed.result
    is.splits.parts c.put-tag.ensures.added c.put-tag.ensures.tag c.signed-signed.ensures in
    let names : c.names-names.result ≡ name_count r.parts = c.names-names.ensures ∙ ap (λ cs. length (named cs)) is.splits.parts in
    defined-new (split_view c.args.self.now) _ c.args.steps.now.items c.note_component.new.steps.items c.definition_line-line.new.steps.items r part c.definition_line-line.result is
    (is-new (has_part part r.parts) c.put-tag.result.1 (c.put-tag.ensures.new ∙ ap (λ cs. not (has_part part cs)) is.splits.parts) c.if-is_new.true)
    (c.put-tag.ensures.added ∙ ap (λ cs. with_part cs part) is.splits.parts)
    (c.note_component.ensures.lines
    ∙ ap₂ (λ (n k : ℕ). if n == k then c.args.self.now.component_lines.items ++ length c.args.steps.now.items ∷ [] else c.args.self.now.component_lines.items)
    (ap (λ (n : NameLit). n.name) signed) names)
    (c.note_component.ensures.steps
    ∙ ap₂ (λ (n k : ℕ). if n == k then c.args.steps.now.items ++ Component n ∷ [] else c.args.steps.now.items) (ap (λ (n : NameLit). n.name) signed) names)
    (c.definition_line-line.ensures.number
    ∙ ap₂ (λ (n : NameLit) (ls : List ℕ). if n.positive then get_or ls n.name 0 else length c.note_component.new.steps.items) signed c.deref.ensures.value)
    (c.definition_line-line.ensures.steps
    ∙ ap (λ (n : NameLit). if n.positive then c.note_component.new.steps.items else c.note_component.new.steps.items ++ Opposite n.name ∷ []) signed)
    c.push_reserved.ensures.items refl refl refl refl
