use Rattle.std.proofs.Common.{◌≡◌, true, ◌&&◌, List, [], ◌∷◌, map, get_or, ap, sym, ◌∙◌, subst}
use Rattle.std.specs.Prelude.{IfSome}
use Rattle.fol_base.specs.Clause.{TreeLiteral}
use Rattle.fol_base.specs.Literal.{literal_of}
use Rattle.kernel_steps.specs.Derivation.{complement}
use Rattle.split_parts.specs.PartTable.{PartTable}
use Rattle.split_parts.specs.Tags.{has_part}
use Rattle.split_parts.specs.SignedNames.{is_ground_unit}
use Rattle.split_parts.proofs.AboutTags.TagLemmas.{key_parts, has-key}
use Rattle.split_parts.proofs.AboutTags.OppositeLemmas.{one-literal, found-part}
use Rattle.split_parts.proofs.tags.NameTable.opposite.Goals as goal

pub returns-clause-found : goal.returns-clause-found
returns-clause-found c =
    let part : List TreeLiteral = map literal_of c.args.literals.now in
    let unit : is_ground_unit part ≡ true = sym c.is_ground_unit.ensures ∙ c.if-not-is_ground_unit.false in
    let its : List TreeLiteral = complement (literal_of c.index-literals-0.result) ∷ [] in
    let same : its ≡ map complement part = one-literal c.args.literals.now c.index-literals-0.result unit c.index-literals-0.is in
    c.get_index_of.ensures.found
    ∙ has-key its c.self.inside.parts.keys
    ∙ ap (λ d. has_part d (key_parts c.self.inside.parts.keys)) same
    ∙ ap (λ (t : PartTable). has_part (map complement part) t.parts) c.self.view_is
    ∙ sym (ap (λ b. b && has_part (map complement part) c.args.self.now.parts) unit)

pub returns-clause-part : goal.returns-clause-part
returns-clause-part c =
    let part : List TreeLiteral = map literal_of c.args.literals.now in
    let unit : is_ground_unit part ≡ true = sym c.is_ground_unit.ensures ∙ c.if-not-is_ground_unit.false in
    let its : List TreeLiteral = complement (literal_of c.index-literals-0.result) ∷ [] in
    let same : its ≡ map complement part = one-literal c.args.literals.now c.index-literals-0.result unit c.index-literals-0.is in
    subst (λ (t : PartTable). IfSome c.get_index_of.result (λ tag. get_or t.parts tag [] ≡ map complement part)) c.self.view_is
    (subst (λ d. IfSome c.get_index_of.result (λ tag. get_or (key_parts c.self.inside.parts.keys) tag [] ≡ d)) same
    (found-part its c.self.inside.parts.keys c.get_index_of.result c.get_index_of.ensures.index))
