use Rattle.tptp_reader.proofs.AboutReads.AnnotatingLemmas.{reading-by, halt-within, fault-of}
use Rattle.tptp_reader.proofs.AboutReads.EntryWhole.{answer-fault}
use Rattle.tptp_reader.proofs.entry.annotated.Goals as goal

pub returns-in-Ok-clause-read : goal.returns-in-Ok-clause-read
returns-in-Ok-clause-read c =
    reading-by _ _ _ _ c.as_slice.ensures c.in-Ok.ensures.read c.in-Ok.ensures.within c.in-Ok.ensures.close c.in-Ok.ensures.place c.in-Ok.ensures.file

pub returns-in-Err-clause-fault : goal.returns-in-Err-clause-fault
returns-in-Err-clause-fault c =
    fault-of _ _ _ _ _ (answer-fault _ _ _ _ _ c.as_slice.ensures c.in-Err.ensures.halted c.fault_of.ensures)

pub fault_of-requires-clause-within : goal.fault_of-requires-clause-within
fault_of-requires-clause-within c = halt-within _ _ _ _ c.as_slice.ensures c.in-Err.ensures.halted
