use Rattle.std.proofs.Common.{◌+◌, ◌*◌, map, take}
use Rattle.fol_base.specs.Tree.{tree_size, trees_size, trees_of}
use Rattle.fol_base.specs.Term.{tree_of}
use Rattle.herbrand_list.specs.Nodes.{AllStand, AreTermNodes, IsGrown}
use Rattle.herbrand_list.proofs.terms.TermNodes.+number.Given as goal

abbrev pub decreases-number : goal.decreases-number
decreases-number l = 2 * tree_size (tree_of l.term.now)

abbrev pub decreases-numbers : goal.decreases-numbers
decreases-numbers l = 2 * trees_size (trees_of l.terms.now) + 1

abbrev pub invariant-numbers-loop-term : goal.invariant-numbers-loop-term
invariant-numbers-loop-term l = record {
  stand : AllStand l.self.nodes.items l.numbers.items (trees_of (map tree_of (take l.term-index l.term-items)));
  grown : IsGrown l.initial.self.nodes.items l.self.nodes.items;
  nodes : AreTermNodes l.self.nodes.items;
}
