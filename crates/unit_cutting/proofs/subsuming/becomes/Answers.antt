use Rattle.std.proofs.Common.{sym, ◌∙◌, subst}
use Rattle.fol_base.specs.Lent.{lent_of}
use Rattle.unit_cutting.proofs.SubsumerLemmas.{Matching, either, straight, unlike}
use Rattle.unit_cutting.proofs.subsuming.becomes.Goals as goal

pub returns-then-not-are_alike : goal.returns-then-not-are_alike
returns-then-not-are_alike c = unlike (lent_of c.args.pattern) (lent_of c.args.target) (sym c.are_alike.ensures ∙ c.if-not-are_alike.true)

pub returns-then-is_some : goal.returns-then-is_some
returns-then-is_some c =
    straight (lent_of c.args.pattern) (lent_of c.args.target) c.empty-nothing.result c.empty-nothing.ensures (sym c.are_alike.ensures ∙ c.if-not-are_alike.false)
    c.in_ok-straight.straight c.in_ok-straight.straight
    (record { exact = c.in_ok-straight.ensures.found; once = c.in_ok-straight.ensures.once; function_terms = c.in_ok-straight.ensures.function_terms })
    (sym c.is_some.ensures ∙ c.if-is_some.true)

pub returns : goal.returns
returns c =
    let l = lent_of c.args.pattern in
    let other : Matching l (lent_of c.exchanged.result) c.empty-nothing.result c.in_ok-crossed.crossed =
    record { exact = c.in_ok-crossed.ensures.found; once = c.in_ok-crossed.ensures.once; function_terms = c.in_ok-crossed.ensures.function_terms } in
    either l (lent_of c.args.target) c.empty-nothing.result c.empty-nothing.ensures (sym c.are_alike.ensures ∙ c.if-not-are_alike.false)
    c.in_ok-straight.straight c.in_ok-crossed.crossed
    (record { exact = c.in_ok-straight.ensures.found; once = c.in_ok-straight.ensures.once; function_terms = c.in_ok-straight.ensures.function_terms })
    (sym c.is_some.ensures ∙ c.if-is_some.false)
    (subst (λ k. Matching l k c.empty-nothing.result c.in_ok-crossed.crossed) c.exchanged.ensures other)
    c.is_some-2.result c.is_some-2.ensures
