use Rattle.std.proofs.Common.{sym, ◌∙◌}
use Rattle.tptp_token.proofs.AboutTexts.FillLemmas.{pair-right, pair-stopped, byte-right, byte-stopped, quote-stopped}
use Rattle.tptp_token.proofs.quote.unit_length.Goals as goal

pub returns-then-starts_with_either-clause-right : goal.returns-then-starts_with_either-clause-right
returns-then-starts_with_either-clause-right c =
    λ l.
    pair-right _ _ _ _ c.requires c.in-Some.ensures.cases.0 c.if-first-eq92.true
    (sym c.starts_with_either.ensures ∙ c.if-starts_with_either.true)

pub returns-else-starts_with_either-clause-stopped : goal.returns-else-starts_with_either-clause-stopped
returns-else-starts_with_either-clause-stopped c =
    λ z.
    pair-stopped _ _ _ _ c.requires c.in-Some.ensures.cases.0 c.if-first-eq92.true
    (sym c.starts_with_either.ensures ∙ c.if-starts_with_either.false)

pub returns-then-first-quote-clause-stopped : goal.returns-then-first-quote-clause-stopped
returns-then-first-quote-clause-stopped c = λ z. quote-stopped _ _ _ _ c.in-Some.ensures.cases.0 c.if-first-quote.true

pub returns-then-is_printable-clause-right : goal.returns-then-is_printable-clause-right
returns-then-is_printable-clause-right c =
    λ l.
    byte-right _ _ _ _ c.in-Some.ensures.cases.0 c.if-first-eq92.false c.if-first-quote.false
    (sym c.is_printable.ensures ∙ c.if-is_printable.true)

pub returns-else-is_printable-clause-stopped : goal.returns-else-is_printable-clause-stopped
returns-else-is_printable-clause-stopped c =
    λ z.
    byte-stopped _ _ _ _ c.in-Some.ensures.cases.0 c.if-first-eq92.false c.if-first-quote.false
    (sym c.is_printable.ensures ∙ c.if-is_printable.false)
