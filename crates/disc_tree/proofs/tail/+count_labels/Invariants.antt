use Rattle.fol_base.specs.Tree.{trees_size, trees_of}
use Rattle.disc_tree.specs.Work.{trees_left}
use Rattle.disc_tree.proofs.tail.+count_labels.Given as goal

abbrev pub decreases-count_labels : goal.decreases-count_labels
decreases-count_labels l = trees_size (trees_of (trees_left l.rest.now))
