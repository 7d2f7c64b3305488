use Rattle.std.proofs.Common.{sym, ◌∙◌}
use Rattle.tptp_reader.proofs.AboutReads.VariableReads.{one_variable-read, no_variable-halted}
use Rattle.tptp_reader.proofs.source.Reader.next_variable.Goals as goal

pub returns-then-not-is_variable-clause-halted : goal.returns-then-not-is_variable-clause-halted
returns-then-not-is_variable-clause-halted c =
    no_variable-halted _ _ _ _ c.in_ok-token.ensures.found (sym c.is_variable.ensures ∙ c.if-not-is_variable.true)

pub returns-clause-read : goal.returns-clause-read
returns-clause-read c =
    one_variable-read _ _ _ _ _ _ c.in_ok-token.ensures.found (sym c.is_variable.ensures ∙ c.if-not-is_variable.false)
    c.in_ok-from_slice.ensures c.in_ok-push.ensures.ok
