use Rattle.std.proofs.Common.{◌≡◌, ◌<◌, ◌∙◌, List, ap, sym, subst, map, length, get_or, [], arith}
use Rattle.fol_base.specs.Clause.{TreeLiteral}
use Rattle.split_parts.specs.PartTable.{PartTable}
use Rattle.split_parts.specs.SignedNames.{affirmed, named}
use Rattle.split_parts.specs.Tags.{tag_of}
use Rattle.split_parts.proofs.AboutTags.EntryLemmas.{first-at, first-within, first-part}
use Rattle.split_parts.proofs.AboutTags.TagLemmas.{key_parts}
use Rattle.split_parts.proofs.tags.NameTable.first_tag.Goals as goal

pub returns-clause-first : goal.returns-clause-first
returns-clause-first c =
    let parts : List (List TreeLiteral) = key_parts c.self.inside.parts.keys in
    let view : parts ≡ c.args.self.now.parts = ap (λ (t : PartTable). t.parts) c.self.view_is in
    let below : c.args.name < length (named parts) =
    (let same : length (named parts) ≡ length (named c.args.self.now.parts) = ap (λ cs. length (named cs)) view in omega (arith, same, c.requires)) in
    c.index.ensures
    ∙ ap (λ ns. get_or ns c.args.name c.index.result.now) c.self.invariant.2
    ∙ first-at parts c.args.name c.index.result.now below
    ∙ ap (λ cs. tag_of (map affirmed cs) (get_or (named cs) c.args.name [])) view

pub returns-clause-within : goal.returns-clause-within
returns-clause-within c =
    subst (λ n. n < length c.args.self.now.parts) (sym (returns-clause-first c)) (first-within c.args.self.now.parts c.args.name c.requires)

pub returns-clause-part : goal.returns-clause-part
returns-clause-part c =
    subst (λ n. affirmed (get_or c.args.self.now.parts n []) ≡ get_or (named c.args.self.now.parts) c.args.name [])
    (sym (returns-clause-first c)) (first-part c.args.self.now.parts c.args.name c.requires)
