use Rattle.std.proofs.Common.{length}
use Rattle.disc_tree.specs.Children.{labels_left}
use Rattle.disc_tree.proofs.first.+first_along.Given as goal

abbrev pub decreases-first_along : goal.decreases-first_along
decreases-first_along g l = length (labels_left l.labels)
