use Rattle.std.proofs.Common.{vec_len}
use Rattle.sat_core.proofs.order.Order.next.Given as goal

abbrev pub decreases-loop-name : goal.decreases-loop-name
decreases-loop-name l = vec_len l.self.heap
