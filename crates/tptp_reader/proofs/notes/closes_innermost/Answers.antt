use Rattle.tptp_reader.proofs.AboutReads.NotesReads.{none-closes, last-closes}
use Rattle.tptp_reader.proofs.notes.closes_innermost.Goals as goal

pub returns-in-None : goal.returns-in-None
returns-in-None c = none-closes _ _ c.in-None.ensures.cases

pub returns-in-Some : goal.returns-in-Some
returns-in-Some c = last-closes _ _ _ _ _ c.in-Some.ensures.cases.0 c.closes.ensures
