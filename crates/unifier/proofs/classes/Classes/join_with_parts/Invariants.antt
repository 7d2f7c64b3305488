use Rattle.std.proofs.Common.{◌+◌, ◌*◌, length}
use Rattle.unifier.specs.Classes.{total}
use Rattle.unifier.proofs.AboutClasses.JoiningLemmas.{AreDue}
use Rattle.unifier.proofs.classes.Classes.join_with_parts.Given as goal

abbrev pub invariant-loop-one : goal.invariant-loop-one
invariant-loop-one l = AreDue l.cells l.first l.second l.initial.self l.self l.due.items

abbrev pub decreases-loop-one : goal.decreases-loop-one
decreases-loop-one l = 3 * total l.self.parents.items + length l.due.items
