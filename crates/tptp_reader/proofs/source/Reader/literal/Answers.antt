use Rattle.std.proofs.Common.{sym, ◌∙◌}
use Rattle.tptp_reader.proofs.AboutRuns.LoopLemmas.{passed}
use Rattle.tptp_reader.proofs.AboutReads.ClauseReads.{literal-too_deep, literal-negated-halted, literal-negated-read, literal-atom-read, literal-atom-halted}
use Rattle.tptp_reader.proofs.source.Reader.literal.Goals as goal

pub returns-in_err-under-clause-halted : goal.returns-in_err-under-clause-halted
returns-in_err-under-clause-halted c =
    passed _ _ _ c.from_residual-in_err-under.ensures.1
    (literal-too_deep _ _ _ _ _ _ c.in_ok-token.ensures.found (sym c.is_connective.ensures ∙ c.if-is_connective.true)
    c.in_err-under.ensures.refused.0 c.in_err-under.ensures.refused.1)

pub returns-in_err-negated-clause-halted : goal.returns-in_err-negated-clause-halted
returns-in_err-negated-clause-halted c =
    passed _ _ _ c.from_residual-in_err-negated.ensures.1
    (literal-negated-halted _ _ _ _ _ _ _ c.in_ok-token.ensures.found (sym c.is_connective.ensures ∙ c.if-is_connective.true)
    c.in_ok-under.ensures.ok.0 c.in_ok-under.ensures.ok.1 c.in_err-negated.ensures.halted)

pub returns-then-is_connective-clause-read : goal.returns-then-is_connective-clause-read
returns-then-is_connective-clause-read c =
    literal-negated-read _ _ _ _ _ _ _ _ _ c.in_ok-token.ensures.found (sym c.is_connective.ensures ∙ c.if-is_connective.true)
    c.in_ok-under.ensures.ok.0 c.in_ok-under.ensures.ok.1 c.in_ok-negated.ensures.read c.in_ok-boxed.ensures

pub returns-in_err-plain-clause-halted : goal.returns-in_err-plain-clause-halted
returns-in_err-plain-clause-halted c =
    passed _ _ _ c.from_residual-in_err-plain.ensures.1
    (literal-atom-halted _ _ _ _ _ _ c.in_ok-token.ensures.found (sym c.is_connective.ensures ∙ c.if-is_connective.false)
    c.in_err-plain.ensures.halted)

pub returns-clause-read : goal.returns-clause-read
returns-clause-read c =
    literal-atom-read _ _ _ _ _ _ _ c.in_ok-token.ensures.found (sym c.is_connective.ensures ∙ c.if-is_connective.false)
    c.in_ok-plain.ensures.read
