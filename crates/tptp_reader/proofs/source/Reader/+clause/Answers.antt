use Rattle.std.proofs.Common.{sym, ◌∙◌}
use Rattle.tptp_reader.proofs.AboutRuns.LoopLemmas.{passed}
use Rattle.tptp_reader.proofs.AboutReads.ClauseReads.{clause-too_deep, clause-inside-halted, clause-unclosed, clause-bracketed-read, clause-plain-read, clause-plain-halted}
use Rattle.tptp_reader.proofs.source.Reader.+clause.Goals as goal

pub returns-in_err-inside-clause-halted : goal.returns-in_err-inside-clause-halted
returns-in_err-inside-clause-halted t c =
    passed _ _ _ c.from_residual-in_err-inside.ensures.1
    (clause-too_deep _ _ _ _ _ _ c.in_ok-token.ensures.found (sym c.is_mark.ensures ∙ c.if-is_mark.true)
    c.in_err-inside.ensures.refused.0 c.in_err-inside.ensures.refused.1)

pub returns-in_err-grouped-clause-halted : goal.returns-in_err-grouped-clause-halted
returns-in_err-grouped-clause-halted t c =
    passed _ _ _ c.from_residual-in_err-grouped.ensures.1
    (clause-inside-halted _ _ _ _ _ _ _ c.in_ok-token.ensures.found (sym c.is_mark.ensures ∙ c.if-is_mark.true)
    c.in_ok-inside.ensures.ok.0 c.in_ok-inside.ensures.ok.1 c.in_err-grouped.ensures.halted)

pub returns-in_err-behind-clause-halted : goal.returns-in_err-behind-clause-halted
returns-in_err-behind-clause-halted t c =
    passed _ _ _ c.from_residual-in_err-behind.ensures.1
    (clause-unclosed _ _ _ _ _ _ _ _ _ c.in_ok-token.ensures.found (sym c.is_mark.ensures ∙ c.if-is_mark.true)
    c.in_ok-inside.ensures.ok.0 c.in_ok-inside.ensures.ok.1 c.in_ok-grouped.ensures.read c.in_err-behind.ensures.ends)

pub returns-then-is_mark-clause-read : goal.returns-then-is_mark-clause-read
returns-then-is_mark-clause-read t c =
    clause-bracketed-read _ _ _ _ _ _ _ _ _ c.in_ok-token.ensures.found (sym c.is_mark.ensures ∙ c.if-is_mark.true)
    c.in_ok-inside.ensures.ok.0 c.in_ok-inside.ensures.ok.1 c.in_ok-grouped.ensures.read
    c.in_ok-behind.ensures.found.0 c.in_ok-behind.ensures.found.1 c.in_ok-behind.ensures.leads

pub returns-in_err-plain-clause-halted : goal.returns-in_err-plain-clause-halted
returns-in_err-plain-clause-halted t c =
    passed _ _ _ c.from_residual-in_err-plain.ensures.1
    (clause-plain-halted _ _ _ _ _ _ c.in_ok-token.ensures.found (sym c.is_mark.ensures ∙ c.if-is_mark.false)
    c.in_err-plain.ensures.halted)

pub returns-clause-read : goal.returns-clause-read
returns-clause-read t c =
    clause-plain-read _ _ _ _ _ _ _ c.in_ok-token.ensures.found (sym c.is_mark.ensures ∙ c.if-is_mark.false)
    c.in_ok-plain.ensures.read
