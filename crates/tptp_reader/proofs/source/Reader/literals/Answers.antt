use Rattle.std.proofs.Common.{sym, ◌∙◌}
use Rattle.tptp_reader.proofs.AboutRuns.LoopLemmas.{passed}
use Rattle.tptp_reader.proofs.AboutReads.ClauseReads.{literals-first-halted, literals-out, one_literal-read, more_literals-halted, more_literals-read}
use Rattle.tptp_reader.proofs.source.Reader.literals.Goals as goal

pub returns-in_err-first-clause-halted : goal.returns-in_err-first-clause-halted
returns-in_err-first-clause-halted c =
    passed _ _ _ c.from_residual.ensures.1 (literals-first-halted _ _ _ _ _ c.in_err-first.ensures.halted)

pub returns-in_err-sign-clause-halted : goal.returns-in_err-sign-clause-halted
returns-in_err-sign-clause-halted c =
    passed _ _ _ c.from_residual-in_err-sign.ensures.1
    (literals-out _ _ _ _ _ _ _ c.in_ok-first.ensures.read c.in_err-sign.ensures.ended)

pub returns-then-not-is_connective-clause-read : goal.returns-then-not-is_connective-clause-read
returns-then-not-is_connective-clause-read c =
    one_literal-read _ _ _ _ _ _ _ c.in_ok-first.ensures.read c.in_ok-sign.ensures.found
    (sym c.is_connective.ensures ∙ c.if-not-is_connective.true)

pub returns-in_err-all-clause-halted : goal.returns-in_err-all-clause-halted
returns-in_err-all-clause-halted c =
    passed _ _ _ c.from_residual-in_err-all.ensures.1
    (more_literals-halted _ _ _ _ _ _ _ _ c.in_ok-first.ensures.read c.in_ok-sign.ensures.found
    (sym c.is_connective.ensures ∙ c.if-not-is_connective.false) c.in_err-all.ensures.halted)

pub returns-clause-read : goal.returns-clause-read
returns-clause-read c =
    more_literals-read _ _ _ _ _ _ _ _ _ c.in_ok-first.ensures.read c.in_ok-sign.ensures.found
    (sym c.is_connective.ensures ∙ c.if-not-is_connective.false) c.in_ok-all.ensures.read
