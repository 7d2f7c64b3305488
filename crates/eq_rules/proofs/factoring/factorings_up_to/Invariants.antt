use Rattle.literal_selection.specs.Mode.{mode_of}
use Rattle.eq_rules.specs.Factoring.{AreFactoringsBefore}
use Rattle.eq_rules.proofs.factoring.factorings_up_to.Given as goal

abbrev pub invariant-loop-number : goal.invariant-loop-number
invariant-loop-number l = AreFactoringsBefore (mode_of l.fn.mode) l.given l.number 0 l.found.items
