use Rattle.std.proofs.Common.{◌≡◌, ◌++◌, map}
use Rattle.tptp_problem.specs.Languages.{selected}
use Rattle.tptp_problem.proofs.selection.Selection.take.Given as goal

abbrev pub invariant-loop-formula : goal.invariant-loop-formula
invariant-loop-formula g l =
    map g.E.Entry.placed l.list.items
    ≡ map g.E.Entry.placed l.initial.list.items ++ selected g.E.Entry.language l.self.names.now (map g.E.Entry.placed l.yielded)
