use Rattle.std.proofs.Common.{◌-◌, length}
use Rattle.fol_base.proofs.place.+replace_from.Given as goal

abbrev pub decreases-replace_from : goal.decreases-replace_from
decreases-replace_from l = length l.place.now - l.depth
