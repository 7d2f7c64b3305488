use Rattle.std.proofs.Common.{sym, ◌∙◌}
use Rattle.tptp_reader.proofs.AboutReads.EntryReads.{name-read, no_name-ends}
use Rattle.tptp_reader.proofs.source.Reader.name.Goals as goal

pub returns-then-not-is_name-clause-halted : goal.returns-then-not-is_name-clause-halted
returns-then-not-is_name-clause-halted c =
    no_name-ends _ _ _ c.in_ok-token.ensures.found (sym c.is_name.ensures ∙ c.if-not-is_name.true)

pub returns-clause-read : goal.returns-clause-read
returns-clause-read c =
    name-read _ _ _ _ c.in_ok-token.ensures.found (sym c.is_name.ensures ∙ c.if-not-is_name.false) c.in_ok-name.ensures
