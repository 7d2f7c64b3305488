use Rattle.std.proofs.Common.{◌≡◌, None, Some, length, slice_index_or, arith, ap, sym, ◌∙◌}
use Rattle.fol_base.specs.Canonical.{place_of}
use Rattle.fol_base.proofs.AboutCanonical.NumberingLemmas.{place_of-push}
use Rattle.eq_rules.proofs.AboutConclusions.RenumberedLemmas.{is_new, numbered_also}
use Rattle.eq_rules.proofs.renumbering.Renumbering.number.Goals as goal

pub invariant_of-self-in_default-put_number : goal.invariant_of-self-in_default-put_number
invariant_of-self-in_default-put_number c =
    let v = c.args.variable in
    let order = c.self.inside.order.items in
    let numbers = c.self.inside.numbers.items in
    let none : slice_index_or numbers v None ≡ None =
    ap (λ ns. slice_index_or ns v None) (sym c.as_slice.ensures.value) ∙ sym c.in_default.ensures in
    let last : c.in-Ok.number ≡ length order = omega (arith, c.in-Ok.ensures, c.len.ensures, c.self.inside.order.ok.0) in
    numbered_also order v c.in-Ok.number numbers c.put_number.new.numbers.items c.push.new.self.items c.self.invariant none last
    c.in_ok-push.ensures.items c.in_default-put_number.ensures.put

pub returns-clause-number : goal.returns-clause-number
returns-clause-number c =
    let v = c.args.variable in
    let order = c.self.inside.order.items in
    let numbers = c.self.inside.numbers.items in
    let none : slice_index_or numbers v None ≡ None =
    ap (λ ns. slice_index_or ns v None) (sym c.as_slice.ensures.value) ∙ sym c.in_default.ensures in
    let last : length order ≡ c.in-Ok.number = omega (arith, c.in-Ok.ensures, c.len.ensures, c.self.inside.order.ok.0) in
    ap (place_of v) c.in_ok-push.ensures.items ∙ place_of-push v order (is_new order v numbers c.self.invariant none) ∙ ap Some last
