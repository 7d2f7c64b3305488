use Rattle.std.proofs.Common.{false, true, sym, ◌∙◌}
use Rattle.tptp_reader.proofs.AboutReads.EntryReads.{language-read, no_lower-ends, typed-ends, no_language-ends}
use Rattle.tptp_reader.proofs.source.Reader.language.Goals as goal

pub returns-then-not-is_lower-clause-halted : goal.returns-then-not-is_lower-clause-halted
returns-then-not-is_lower-clause-halted c =
    no_lower-ends _ _ _ c.in_ok-token.ensures.found (sym c.is_lower.ensures ∙ c.if-not-is_lower.true)

pub returns-then-has_bytes-clause-read : goal.returns-then-has_bytes-clause-read
returns-then-has_bytes-clause-read c =
    language-read _ _ false _ c.in_ok-token.ensures.found (sym c.is_lower.ensures ∙ c.if-not-is_lower.false)
    (sym c.has_bytes.ensures ∙ c.if-has_bytes.true)

pub returns-then-has_bytes-2-clause-read : goal.returns-then-has_bytes-2-clause-read
returns-then-has_bytes-2-clause-read c =
    language-read _ _ true _ c.in_ok-token.ensures.found (sym c.is_lower.ensures ∙ c.if-not-is_lower.false)
    (sym c.has_bytes-2.ensures ∙ c.if-has_bytes-2.true)

pub returns-then-is_typed-clause-halted : goal.returns-then-is_typed-clause-halted
returns-then-is_typed-clause-halted c =
    typed-ends _ _ _ c.in_ok-token.ensures.found (sym c.is_lower.ensures ∙ c.if-not-is_lower.false)
    (sym c.has_bytes.ensures ∙ c.if-has_bytes.false) (sym c.has_bytes-2.ensures ∙ c.if-has_bytes-2.false)
    (sym c.is_typed.ensures ∙ c.if-is_typed.true)

pub returns-clause-halted : goal.returns-clause-halted
returns-clause-halted c =
    no_language-ends _ _ _ c.in_ok-token.ensures.found (sym c.is_lower.ensures ∙ c.if-not-is_lower.false)
    (sym c.has_bytes.ensures ∙ c.if-has_bytes.false) (sym c.has_bytes-2.ensures ∙ c.if-has_bytes-2.false)
    (sym c.is_typed.ensures ∙ c.if-is_typed.false)
