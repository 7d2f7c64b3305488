use Rattle.std.proofs.Common.{◌-◌, length}
use Rattle.superpose.proofs.numbering.+number_replaced.Given as goal

abbrev pub decreases-number_replaced : goal.decreases-number_replaced
decreases-number_replaced g l = length l.place.now - l.depth
