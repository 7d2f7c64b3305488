use Rattle.std.proofs.Common.{◌≡◌, ◌<◌, ◌∙◌, List, ap, length, get_or, [], arith}
use Rattle.fol_base.specs.Clause.{TreeLiteral}
use Rattle.split_parts.specs.PartTable.{PartTable}
use Rattle.split_parts.specs.SignedNames.{signed_name}
use Rattle.split_parts.proofs.AboutTags.EntryLemmas.{signed-at}
use Rattle.split_parts.proofs.AboutTags.TagLemmas.{key_parts}
use Rattle.split_parts.proofs.tags.NameTable.signed.Goals as goal

pub returns : goal.returns
returns c =
    let parts : List (List TreeLiteral) = key_parts c.self.inside.parts.keys in
    let view : parts ≡ c.args.self.now.parts = ap (λ (t : PartTable). t.parts) c.self.view_is in
    let below : c.args.tag < length parts = (let same : length parts ≡ length c.args.self.now.parts = ap length view in omega (arith, same, c.requires)) in
    c.index.ensures
    ∙ ap (λ ns. get_or ns c.args.tag c.index.result.now) c.self.invariant.1
    ∙ signed-at parts c.args.tag c.index.result.now below
    ∙ ap (λ cs. signed_name cs (get_or cs c.args.tag [])) view
