use Rattle.std.proofs.Common.{◌≡◌, List, length, map, ap, sym, ◌∙◌, subst}
use Rattle.std.proofs.lemmas.List.{length-map}
use Rattle.fol_base.specs.Literal.{literal_of}
use Rattle.fol_base.specs.declared.clause.Literal.{Literal}
use Rattle.split_parts.specs.Components.{IsComponents}
use Rattle.split_parts.specs.Forest.{IsColouring, IsGrouped, IsLinked}
use Rattle.split_parts.proofs.AboutParts.ComponentLemmas.{grouped-components}
use Rattle.split_parts.proofs.parts.components.Goals as goal

pub returns : goal.returns
returns c =
    let xs = c.as_slice-literals.result.now in
    let links = c.in_ok-links.links.items in
    let linked : IsLinked (map literal_of xs) links = c.in_ok-links.ensures.linked in
    let grouped = c.in_ok-parts.ensures linked.colour (subst (IsColouring linked.colour) (sym c.as_slice.ensures.value) linked.colouring) in
    let count : length c.as_slice.result.now ≡ length (map literal_of xs) =
    ap length c.as_slice.ensures.value ∙ c.in_ok-links.ensures.len ∙ sym (length-map xs literal_of) in
    let made : IsComponents (map literal_of xs) c.in_ok-parts.parts.items =
    grouped-components (map literal_of xs) links grouped.0 c.in_ok-parts.parts.items linked
    (subst (λ n. IsGrouped linked.colour n grouped.0 c.in_ok-parts.parts.items) count grouped.1) in
    subst (λ (ls : List Literal). IsComponents (map literal_of ls) c.from_vec.result) c.as_slice-literals.ensures
    (subst (IsComponents (map literal_of xs)) (sym c.from_vec.ensures) made)
