use Rattle.std.proofs.Common.{sym, ◌∙◌}
use Rattle.tptp_reader.proofs.AboutReads.EntryReads.{role-read, no_role-ends, untaken-ends}
use Rattle.tptp_reader.proofs.source.Reader.role.Goals as goal

pub returns-then-not-is_lower-clause-halted : goal.returns-then-not-is_lower-clause-halted
returns-then-not-is_lower-clause-halted c =
    no_role-ends _ _ _ _ c.in_ok-token.ensures.found (sym c.is_lower.ensures ∙ c.if-not-is_lower.true)

pub returns-in-Some-clause-read : goal.returns-in-Some-clause-read
returns-in-Some-clause-read c =
    role-read _ _ _ _ _ c.in_ok-token.ensures.found (sym c.is_lower.ensures ∙ c.if-not-is_lower.false)
    (sym c.in-Some.is ∙ c.of_word.ensures)

pub returns-in-None-clause-halted : goal.returns-in-None-clause-halted
returns-in-None-clause-halted c =
    untaken-ends _ _ _ _ _ c.in_ok-token.ensures.found (sym c.is_lower.ensures ∙ c.if-not-is_lower.false)
    (sym c.in-None.is ∙ c.of_word.ensures) c.untaken_role.ensures
