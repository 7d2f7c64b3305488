use Rattle.fol_base.specs.Tree.{trees_size, trees_of}
use Rattle.disc_tree.specs.Work.{trees_left}
use Rattle.disc_tree.proofs.tail.+push_labels.Given as goal

abbrev pub decreases-push_labels : goal.decreases-push_labels
decreases-push_labels l = trees_size (trees_of (trees_left l.rest.now))
