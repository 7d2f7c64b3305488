use Rattle.std.proofs.Common.{◌+◌, ◌*◌, length}
use Rattle.disc_tree.specs.Children.{labels_left}
use Rattle.disc_tree.proofs.fitting.+fits.Given as goal

abbrev pub decreases-fits : goal.decreases-fits
decreases-fits g l = 2 * length (labels_left l.labels)

abbrev pub decreases-fits_variable : goal.decreases-fits_variable
decreases-fits_variable g l = 2 * length (labels_left l.others) + 1
