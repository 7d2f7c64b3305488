use Rattle.std.proofs.Common.{map, take}
use Rattle.tptp_problem.specs.NameSets.{names_among}
use Rattle.tptp_problem.proofs.AboutFiles.NameSetLemmas.{IsWithout}
use Rattle.tptp_problem.proofs.name_set.take_out.Given as goal

abbrev pub invariant-loop-formula : goal.invariant-loop-formula
invariant-loop-formula g l =
    IsWithout (take l.formula-index (names_among g.E.Entry.language (map g.E.Entry.placed l.formulas))) l.initial.set l.set
