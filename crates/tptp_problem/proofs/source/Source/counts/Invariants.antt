use Rattle.std.proofs.Common.{◌≡◌, drop}
use Rattle.tptp_problem.specs.Languages.{counts}
use Rattle.tptp_problem.specs.Shape.{selections}
use Rattle.tptp_problem.proofs.source.Source.counts.Given as goal

abbrev pub invariant-loop-selection : goal.invariant-loop-selection
invariant-loop-selection l = counts (selections l.self.around.now) l.name ≡ counts (selections (drop l.selection-index l.self.around.now)) l.name
