use Rattle.std.proofs.Common.{◌≡◌, ◌==◌, Some, None, take, position, ap, sym, ◌∙◌}
use Rattle.fol_base.specs.Canonical.{place_of}
use Rattle.fol_base.specs.declared.numbering.TheConstants.{SCANNED}
use Rattle.fol_base.proofs.AboutCanonical.NumberingLemmas.{position-place_of, scanned}
use Rattle.fol_base.proofs.numbering.Numbering.get.Goals as goal

pub returns-in-None : goal.returns-in-None
returns-in-None c =
    let v = c.args.variable in
    let order = c.self.inside.order.items in
    let none : place_of v (take SCANNED order) ≡ None =
    sym (position-place_of v (take SCANNED order))
    ∙ ap (λ vs. position (λ w. w == v) (take SCANNED vs)) (sym c.as_slice.ensures.value)
    ∙ sym c.scan.ensures.place ∙ c.in-None.is in
    c.copied.ensures ∙ c.get.ensures.value ∙ c.self.invariant.places v none ∙ ap (place_of v) c.self.view_is

pub returns-in-Some : goal.returns-in-Some
returns-in-Some c =
    let v = c.args.variable in
    let order = c.self.inside.order.items in
    let found : place_of v (take SCANNED order) ≡ Some c.in-Some.place =
    sym (position-place_of v (take SCANNED order))
    ∙ ap (λ vs. position (λ w. w == v) (take SCANNED vs)) (sym c.as_slice.ensures.value)
    ∙ sym c.scan.ensures.place ∙ c.in-Some.is in
    sym (scanned SCANNED v c.in-Some.place order found) ∙ ap (place_of v) c.self.view_is
