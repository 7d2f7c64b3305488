use Rattle.std.proofs.Common.{◌-◌, length}
use Rattle.tptp_reader.specs.TellingNotes.{stack_of}
use Rattle.tptp_reader.proofs.AboutReads.NotesReads.{NotesSoFar}
use Rattle.tptp_reader.proofs.source.Reader.notes.Given as goal

abbrev pub invariant-loop-unclosed : goal.invariant-loop-unclosed
invariant-loop-unclosed l = NotesSoFar l.self l.at l.next (stack_of l.unclosed.items)

abbrev pub decreases-loop-unclosed : goal.decreases-loop-unclosed
decreases-loop-unclosed l = length l.self.tokens.now - l.next
