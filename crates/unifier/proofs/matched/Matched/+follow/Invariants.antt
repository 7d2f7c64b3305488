use Rattle.std.proofs.Common.{◌≡◌, ◌+◌, ◌*◌, length, map, drop, take}
use Rattle.fol_base.specs.Tree.{tree_size, trees_size, trees_of}
use Rattle.fol_base.specs.Term.{tree_of}
use Rattle.unifier.specs.Walk.{walk_all}
use Rattle.unifier.proofs.matched.Matched.+follow.Given as goal

abbrev pub decreases-follow : goal.decreases-follow
decreases-follow l = 2 * tree_size (tree_of l.pattern.now)

abbrev pub decreases-follow_all : goal.decreases-follow_all
decreases-follow_all l = 2 * trees_size (trees_of (map tree_of l.patterns.now)) + 1

abbrev pub invariant-follow_all-loop-index : goal.invariant-follow_all-loop-index
invariant-follow_all-loop-index l =
    (walk_all l.self (trees_of (map tree_of (drop l.index l.patterns))) (trees_of (map tree_of (drop l.index l.targets)))
    ≡ walk_all l.initial.self (trees_of (map tree_of l.patterns)) (trees_of (map tree_of l.targets)))
    × (take (length l.initial.self) l.self ≡ l.initial.self)
