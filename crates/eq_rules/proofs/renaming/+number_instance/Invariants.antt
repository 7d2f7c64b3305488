use Rattle.std.proofs.Common.{◌≡◌, ◌+◌, ◌*◌, map, take}
use Rattle.std.specs.Prelude.{flat_map}
use Rattle.fol_base.specs.Tree.{tree_size, trees_size, trees_of}
use Rattle.fol_base.specs.Numbering.{with_variables}
use Rattle.fol_base.specs.Term.{tree_of}
use Rattle.eq_rules.proofs.AboutConclusions.RenumberedLemmas.{instance_parts}
use Rattle.eq_rules.proofs.renaming.+number_instance.Given as goal

abbrev pub decreases-number_instance : goal.decreases-number_instance
decreases-number_instance g l = 2 * tree_size (tree_of l.term.now)

abbrev pub decreases-number_instances : goal.decreases-number_instances
decreases-number_instances g l = 2 * trees_size (trees_of (map tree_of l.terms.now)) + 1

abbrev pub invariant-number_instances-loop-term : goal.invariant-number_instances-loop-term
invariant-number_instances-loop-term g l =
    l.numbers
    ≡ with_variables l.initial.numbers (flat_map (instance_parts (g.S.LendsTerms.meaning l.bind)) (take l.term-index l.terms))
