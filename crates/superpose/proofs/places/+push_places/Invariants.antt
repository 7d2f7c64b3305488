use Rattle.std.proofs.Common.{◌≡◌, ◌+◌, ◌*◌, ◌++◌, map, take}
use Rattle.fol_base.specs.Tree.{tree_size, trees_size, trees_of}
use Rattle.fol_base.specs.Term.{tree_of}
use Rattle.superpose.specs.Sites.{below_path, places_from}
use Rattle.superpose.proofs.places.+push_places.Given as goal

abbrev pub decreases-push_places : goal.decreases-push_places
decreases-push_places l = 2 * tree_size (tree_of l.term.now)

abbrev pub decreases-push_argument_places : goal.decreases-push_argument_places
decreases-push_argument_places l = 2 * trees_size (trees_of (map tree_of l.terms.now)) + 1

abbrev pub invariant-push_argument_places-loop-index : goal.invariant-push_argument_places-loop-index
invariant-push_argument_places-loop-index l = record {
  path : l.path.items ≡ l.initial.path.items;
  found :
      l.found.items
      ≡ l.initial.found.items ++ map (below_path l.at l.initial.path.items) (places_from 0 (trees_of (map tree_of (take l.index l.terms))));
}
