use Rattle.std.proofs.Common.{◌≡◌, ◌-◌, vec_len}
use Rattle.sat_core.proofs.order.Order.sift_down.Given as goal

abbrev pub invariant-loop-index : goal.invariant-loop-index
invariant-loop-index l = vec_len l.self.heap ≡ vec_len l.initial.self.heap

abbrev pub decreases-loop-index : goal.decreases-loop-index
decreases-loop-index l = vec_len l.self.heap - l.index
