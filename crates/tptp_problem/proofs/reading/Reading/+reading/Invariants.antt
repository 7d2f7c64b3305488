use Rattle.std.proofs.Common.{◌≡◌, ◌≤◌, ◌+◌, ◌-◌, ◌*◌, length, map}
use Rattle.tptp_problem.specs.Problem.{ReadsNamed}
use Rattle.tptp_problem.specs.Shape.{file_of, progress_of}
use Rattle.tptp_problem.proofs.AboutReading.ReadLemmas.{ReadsUpTo}
use Rattle.tptp_problem.proofs.reading.Reading.+reading.Given as goal

abbrev pub decreases-file : goal.decreases-file
decreases-file g l = 4 * l.depth + 3

abbrev pub decreases-include : goal.decreases-include
decreases-include g l = 4 * l.depth + 1

abbrev pub decreases-text : goal.decreases-text
decreases-text g l = 4 * l.depth + 2

abbrev pub invariant-text-loop-next : goal.invariant-text-loop-next
invariant-text-loop-next g l =
    record {
      read :
          ReadsUpTo g.E.Entry.language l.fn.self.base.now (ReadsNamed g.E.Entry.language (g.L.Library.told l.fn.library) l.fn.self.base.now l.depth)
          (file_of l.source) (progress_of l.fn.self) l.next (map g.E.Entry.placed l.formulas.items) (progress_of l.self);
      told : g.L.Library.told l.library ≡ g.L.Library.told l.fn.library;
      later : g.L.Library.faults l.fn.library ≤ g.L.Library.faults l.library;
      base : l.self.base ≡ l.fn.self.base;
    }

abbrev pub decreases-text-loop-next : goal.decreases-text-loop-next
decreases-text-loop-next g l = length l.source.lexed.now.tokens - l.next
