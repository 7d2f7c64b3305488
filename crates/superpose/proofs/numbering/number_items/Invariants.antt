use Rattle.std.proofs.Common.{◌≡◌, ◌-◌, take, drop}
use Rattle.std.specs.Prelude.{flat_map}
use Rattle.fol_base.specs.Numbering.{with_variables}
use Rattle.superpose.specs.Concluding.{instance_variables}
use Rattle.superpose.proofs.numbering.number_items.Given as goal

abbrev pub invariant-loop-index : goal.invariant-loop-index
invariant-loop-index g l =
    l.numbers
    ≡ with_variables l.initial.numbers (flat_map (instance_variables (g.T.LendsTerms.meaning l.bind)) (take (l.index - l.start) (drop l.start l.items)))
