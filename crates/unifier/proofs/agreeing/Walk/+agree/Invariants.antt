use Rattle.std.proofs.Common.{◌+◌, ◌*◌, map, drop}
use Rattle.fol_base.specs.Tree.{trees_of}
use Rattle.fol_base.specs.Term.{tree_of}
use Rattle.unifier.proofs.AboutLayouts.WalkLemmas.{Agreeing}
use Rattle.unifier.proofs.agreeing.Walk.+agree.Given as goal

abbrev pub decreases-agree : goal.decreases-agree
decreases-agree l = 3 * l.levels

abbrev pub decreases-agree_in_all : goal.decreases-agree_in_all
decreases-agree_in_all l = 3 * l.levels + 1

abbrev pub decreases-agree_with : goal.decreases-agree_with
decreases-agree_with l = 3 * l.levels + 1

abbrev pub invariant-agree_in_all-loop-index : goal.invariant-agree_in_all-loop-index
invariant-agree_in_all-loop-index l =
    Agreeing l.apart l.initial.self.equations l.self.equations l.one.side (trees_of (map tree_of l.one.terms.now)) (trees_of (map tree_of (drop l.index l.one.terms.now)))
    l.other.side (trees_of (map tree_of l.other.terms.now)) (trees_of (map tree_of (drop l.index l.other.terms.now)))
