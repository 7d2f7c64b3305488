use Rattle.std.proofs.Common.{◌≡◌, drop, map}
use Rattle.tptp_problem.specs.Languages.{missing_from}
use Rattle.tptp_problem.proofs.selection.Selection.missing.Given as goal

abbrev pub invariant-loop-index : goal.invariant-loop-index
invariant-loop-index g l =
    missing_from g.E.Entry.language 0 l.self.names.now (map g.E.Entry.placed l.formulas)
    ≡ missing_from g.E.Entry.language l.index (drop l.index l.self.names.now) (map g.E.Entry.placed l.formulas)
