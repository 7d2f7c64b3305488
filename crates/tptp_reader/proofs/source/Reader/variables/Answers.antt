use Rattle.std.proofs.Common.{refl, sym, ◌∙◌}
use Rattle.tptp_reader.proofs.AboutRuns.LoopLemmas.{passed}
use Rattle.tptp_reader.proofs.AboutReads.VariableReads.{variables-first, variables-more, variables-read, variables-refused, variables-cut_off, variables-halted, bracket-halted, bracket_deep-halted, first_variable-halted}
use Rattle.tptp_reader.proofs.source.Reader.variables.Goals as goal

pub returns-then-not-is_mark-clause-halted : goal.returns-then-not-is_mark-clause-halted
returns-then-not-is_mark-clause-halted c =
    bracket-halted _ _ _ _ _ c.in_ok-open.ensures.found (sym c.is_mark.ensures ∙ c.if-not-is_mark.true)

pub returns-in_err-deeper-clause-halted : goal.returns-in_err-deeper-clause-halted
returns-in_err-deeper-clause-halted c =
    passed _ _ _ c.from_residual-in_err-deeper.ensures.1
    (bracket_deep-halted _ _ _ _ _ _ c.in_ok-open.ensures.found (sym c.is_mark.ensures ∙ c.if-not-is_mark.false)
    c.in_err-deeper.ensures.refused.0 c.in_err-deeper.ensures.refused.1)

pub returns-in_err-next-clause-halted : goal.returns-in_err-next-clause-halted
returns-in_err-next-clause-halted c =
    passed _ _ _ c.from_residual-in_err-next.ensures.1
    (first_variable-halted _ _ _ _ _ _ _ c.in_ok-open.ensures.found (sym c.is_mark.ensures ∙ c.if-not-is_mark.false)
    c.in_ok-deeper.ensures.ok.1 c.new-variables.ensures c.in_err-next.ensures.halted)

pub loop-variables-init : goal.loop-variables-init
loop-variables-init c =
    variables-first _ _ _ _ _ _ _ _ _ _ c.in_ok-open.ensures.found (sym c.is_mark.ensures ∙ c.if-not-is_mark.false)
    c.in_ok-deeper.ensures.ok.1 c.in_ok-next.ensures.read c.new-variables.ensures c.in_ok-next.ensures.binds refl

pub returns-in_err-token-clause-halted : goal.returns-in_err-token-clause-halted
returns-in_err-token-clause-halted c =
    passed _ _ _ c.from_residual-in_err-token.ensures.1
    (variables-cut_off _ _ _ _ _ _ _ _ c.loop-variables.invariant c.in_err-token.ensures.ended)

pub returns-then-is_mark-clause-read : goal.returns-then-is_mark-clause-read
returns-then-is_mark-clause-read c =
    variables-read _ _ _ _ _ _ _ _ c.loop-variables.invariant c.in_ok-token.ensures.found
    (sym c.is_mark-in-loop-variables.ensures ∙ c.if-is_mark.true)

pub returns-then-not-is_mark-2-clause-halted : goal.returns-then-not-is_mark-2-clause-halted
returns-then-not-is_mark-2-clause-halted c =
    variables-refused _ _ _ _ _ _ _ _ c.loop-variables.invariant c.in_ok-token.ensures.found
    (sym c.is_mark-in-loop-variables.ensures ∙ c.if-is_mark.false)
    (sym c.is_mark-in-loop-variables-2.ensures ∙ c.if-not-is_mark-2.true)

pub returns-in_err-next-2-clause-halted : goal.returns-in_err-next-2-clause-halted
returns-in_err-next-2-clause-halted c =
    passed _ _ _ c.from_residual-in_err-next-2.ensures.1
    (variables-halted _ _ _ _ _ _ _ _ _ c.loop-variables.invariant c.in_ok-token.ensures.found
    (sym c.is_mark-in-loop-variables-2.ensures ∙ c.if-not-is_mark-2.false) c.in_err-next-2.ensures.halted)

pub loop-variables-preserved : goal.loop-variables-preserved
loop-variables-preserved c =
    variables-more _ _ _ _ _ _ _ _ _ _ _ c.loop-variables.invariant c.in_ok-token.ensures.found
    (sym c.is_mark-in-loop-variables-2.ensures ∙ c.if-not-is_mark-2.false) c.in_ok-next-2.ensures.read c.in_ok-next-2.ensures.binds
