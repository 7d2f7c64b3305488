use Rattle.std.proofs.Common.{◌+◌, ◌-◌, ◌*◌, length}
use Rattle.tptp_source.specs.Shape.{tree_of}
use Rattle.tptp_source.proofs.AboutParts.ItemReads.{PartsSoFar, ItemsSoFar}
use Rattle.tptp_source.proofs.reader.Reader.+general_terms.Given as goal

abbrev pub decreases-part : goal.decreases-part
decreases-part l = 4 * (length l.self.now.tokens.now - l.at)

abbrev pub decreases-term : goal.decreases-term
decreases-term l = 4 * (length l.self.now.tokens.now - l.at) + 1

abbrev pub decreases-joined : goal.decreases-joined
decreases-joined l = 4 * (length l.self.now.tokens.now - l.at) + 1

abbrev pub decreases-items : goal.decreases-items
decreases-items l = 4 * (length l.self.now.tokens.now - l.at) + 2

abbrev pub decreases-list : goal.decreases-list
decreases-list l = 4 * (length l.self.now.tokens.now - l.at) + 3

abbrev pub decreases-arguments : goal.decreases-arguments
decreases-arguments l = 4 * (length l.self.now.tokens.now - l.at) + 3

abbrev pub decreases-joined-loop-alloc : goal.decreases-joined-loop-alloc
decreases-joined-loop-alloc l = length l.self.tokens.now - l.next

abbrev pub invariant-joined-loop-alloc : goal.invariant-joined-loop-alloc
invariant-joined-loop-alloc l = PartsSoFar l.self (tree_of l.fn.first) l.at l.next l.parts

abbrev pub decreases-items-loop-alloc : goal.decreases-items-loop-alloc
decreases-items-loop-alloc l = length l.self.tokens.now - l.next

abbrev pub invariant-items-loop-alloc : goal.invariant-items-loop-alloc
invariant-items-loop-alloc l = ItemsSoFar l.close l.self l.at l.next l.items
