use Rattle.tptp_source.proofs.AboutWholes.WholeReads.{more-none, all-spelled, halted-none}
use Rattle.tptp_source.proofs.whole.read_general_term.Goals as goal

pub returns-then-next-tokens-clause-none : goal.returns-then-next-tokens-clause-none
returns-then-next-tokens-clause-none c = more-none _ _ _ c.in-Ok.ensures.read c.if-next-tokens.true

pub returns-else-next-tokens-clause-spelled : goal.returns-else-next-tokens-clause-spelled
returns-else-next-tokens-clause-spelled c = all-spelled _ _ _ c.in-Ok.ensures.read c.if-next-tokens.false

pub returns-in-Err-NoTerm-clause-none : goal.returns-in-Err-NoTerm-clause-none
returns-in-Err-NoTerm-clause-none c = halted-none _ _ c.in-Err-NoTerm.ensures.halted c.in-Err-NoTerm.field-0-is
