use Rattle.std.proofs.Common.{sym, ◌∙◌}
use Rattle.tptp_reader.proofs.AboutRuns.LoopLemmas.{passed}
use Rattle.tptp_reader.proofs.AboutReads.EntryReads.{ending-refused, notes-halted, noted-stop-halted, noted-read, plain-stop-halted, plain-read}
use Rattle.tptp_reader.proofs.source.Reader.ending.Goals as goal

pub returns-in_err-close-clause-halted : goal.returns-in_err-close-clause-halted
returns-in_err-close-clause-halted c =
    passed _ _ _ c.from_residual-in_err-close.ensures.1
    (notes-halted _ _ _ _ c.in_ok-token.ensures.found (sym c.is_mark.ensures ∙ c.if-is_mark.true) c.in_err-close.ensures.halted)

pub returns-in_err-next-clause-halted : goal.returns-in_err-next-clause-halted
returns-in_err-next-clause-halted c =
    passed _ _ _ c.from_residual-in_err-next.ensures.1
    (noted-stop-halted _ _ _ _ _ c.in_ok-token.ensures.found (sym c.is_mark.ensures ∙ c.if-is_mark.true)
    c.in_ok-close.ensures.read c.in_err-next.ensures.ends)

pub returns-then-is_mark-clause-read : goal.returns-then-is_mark-clause-read
returns-then-is_mark-clause-read c =
    noted-read _ _ _ _ _ c.in_ok-token.ensures.found (sym c.is_mark.ensures ∙ c.if-is_mark.true) c.in_ok-close.ensures.read
    c.in_ok-next.ensures.found.0 c.in_ok-next.ensures.found.1 c.in_ok-next.ensures.leads

pub returns-then-not-is_mark-clause-halted : goal.returns-then-not-is_mark-clause-halted
returns-then-not-is_mark-clause-halted c =
    ending-refused _ _ _ c.in_ok-token.ensures.found (sym c.is_mark.ensures ∙ c.if-is_mark.false)
    (sym c.is_mark-2.ensures ∙ c.if-not-is_mark.true)

pub returns-in_err-last-clause-halted : goal.returns-in_err-last-clause-halted
returns-in_err-last-clause-halted c =
    passed _ _ _ c.from_residual-in_err-last.ensures.1
    (plain-stop-halted _ _ _ _ c.in_ok-token.ensures.found (sym c.is_mark-2.ensures ∙ c.if-not-is_mark.false)
    c.in_err-last.ensures.ends)

pub returns-clause-read : goal.returns-clause-read
returns-clause-read c =
    plain-read _ _ _ _ c.in_ok-token.ensures.found (sym c.is_mark-2.ensures ∙ c.if-not-is_mark.false)
    c.in_ok-last.ensures.found.0 c.in_ok-last.ensures.found.1 c.in_ok-last.ensures.leads
