use Rattle.tptp_reader.proofs.AboutReads.NotesReads.{none-end, some-end}
use Rattle.tptp_reader.proofs.notes.ends_notes.Goals as goal

pub returns-in-None : goal.returns-in-None
returns-in-None c = none-end _ _ _ c.in-None.ensures.cases c.is_mark.ensures

pub returns-in-Some : goal.returns-in-Some
returns-in-Some c = some-end _ _ _ _ c.in-Some.ensures.cases.0
