use Rattle.std.proofs.Common.{◌≡◌, ◌+◌, ◌-◌, ◌*◌, ◌^◌, min, map, take}
use Rattle.fol_base.specs.Tree.{tree_size, trees_size, trees_of}
use Rattle.fol_base.specs.Term.{tree_of}
use Rattle.fol_base.proofs.term.+size.Given as goal

abbrev pub decreases-Term::size : goal.decreases-Term::size
decreases-Term::size l = 2 * tree_size (tree_of l.self.now)

abbrev pub decreases-Terms::size : goal.decreases-Terms::size
decreases-Terms::size l = 2 * trees_size (trees_of l.self.now) + 1

abbrev pub invariant-Terms::size-loop-term : goal.invariant-Terms::size-loop-term
invariant-Terms::size-loop-term l =
    l.total ≡ min (trees_size (trees_of (map tree_of (take l.term-index l.term-items)))) (2 ^ 64 - 1)
