use Rattle.std.proofs.Common.{◌≡◌, ◌≤◌, ◌<◌, false, Some, ap, length, sym, ◌∙◌, arith, subst, List, ℕ}
use Rattle.std.specs.Option.{is_some}
use Rattle.fol_base.specs.Canonical.{place_of}
use Rattle.fol_base.specs.Numbering.{IsNumbering}
use Rattle.fol_base.specs.declared.numbering.TheConstants.{SCANNED}
use Rattle.fol_base.proofs.AboutCanonical.NumberingLemmas.{number_left, place_of-push, numbering-scanned, numbering-mapped}
use Rattle.fol_base.proofs.numbering.Numbering.number.Goals as goal

pub overflow_cast-number : goal.overflow_cast-number
overflow_cast-number c =
    let v = c.args.variable in
    let new : is_some (place_of v c.self.inside.order.items) ≡ false =
    ap is_some (ap (place_of v) c.self.view_is ∙ sym c.in_default.ensures) in
    omega (
      arith,
      number_left c.self.inside.order.items v c.self.invariant.once c.self.invariant.bounded (omega arith) new,
      c.self.inside.order.ok.0,
      c.len-number.ensures,
    )

pub invariant_of-self-in_default-insert : goal.invariant_of-self-in_default-insert
invariant_of-self-in_default-insert c =
    let v = c.args.variable in
    let new : is_some (place_of v c.self.inside.order.items) ≡ false =
    ap is_some (ap (place_of v) c.self.view_is ∙ sym c.in_default.ensures) in
    let P : List ℕ → Type 0 = λ order. IsNumbering order c.insert.new.self in
    let last : c.len-number.result ≡ length c.self.inside.order.items = omega (arith, c.self.inside.order.ok.0) in
    let full : SCANNED ≤ length c.self.inside.order.items = omega (arith, c.in_ok-push.ensures.len) in
    subst P (sym c.in_ok-push.ensures.items)
    (numbering-mapped c.self.inside.order.items v c.self.inside.later c.self.invariant (omega arith) new c.insert.new.self
    c.len-number.result full last c.in_default-insert.ensures.updates)

pub invariant_of-self-else-len-gt-SCANNED : goal.invariant_of-self-else-len-gt-SCANNED
invariant_of-self-else-len-gt-SCANNED c =
    let v = c.args.variable in
    let new : is_some (place_of v c.self.inside.order.items) ≡ false =
    ap is_some (ap (place_of v) c.self.view_is ∙ sym c.in_default.ensures) in
    let P : List ℕ → Type 0 = λ order. IsNumbering order c.self.inside.later in
    let room : length c.self.inside.order.items < SCANNED = omega (arith, c.self.inside.order.ok.0, c.in_ok-push.ensures.len) in
    subst P (sym c.in_ok-push.ensures.items)
    (numbering-scanned c.self.inside.order.items v c.self.inside.later c.self.invariant (omega arith) new room)

pub returns-in_default-insert-clause-number : goal.returns-in_default-insert-clause-number
returns-in_default-insert-clause-number c =
    let v = c.args.variable in
    let new : is_some (place_of v c.self.inside.order.items) ≡ false =
    ap is_some (ap (place_of v) c.self.view_is ∙ sym c.in_default.ensures) in
    let last : length c.self.inside.order.items ≡ c.len-number.result = omega (arith, c.self.inside.order.ok.0) in
    ap (place_of v) c.in_ok-push.ensures.items ∙ place_of-push v c.self.inside.order.items new ∙ ap Some last

pub returns-else-len-gt-SCANNED-clause-number : goal.returns-else-len-gt-SCANNED-clause-number
returns-else-len-gt-SCANNED-clause-number c =
    let v = c.args.variable in
    let new : is_some (place_of v c.self.inside.order.items) ≡ false =
    ap is_some (ap (place_of v) c.self.view_is ∙ sym c.in_default.ensures) in
    let last : length c.self.inside.order.items ≡ c.len-number.result = omega (arith, c.self.inside.order.ok.0) in
    ap (place_of v) c.in_ok-push.ensures.items ∙ place_of-push v c.self.inside.order.items new ∙ ap Some last
