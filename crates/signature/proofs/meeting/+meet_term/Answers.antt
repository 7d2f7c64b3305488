use Rattle.std.proofs.Common.{arith}
use Rattle.tptp_tree.proofs.SizeLemmas.{term-item-is}
use Rattle.signature.proofs.meeting.+meet_term.Goals as goal

pub meet_terms-meet_term-requires : goal.meet_terms-meet_term-requires
meet_terms-meet_term-requires t c = (
  omega (arith, term-item-is _ _ _ c.loop-term-test.true c.term-item.is, c.decreases),
  omega (arith, term-item-is _ _ _ c.loop-term-test.true c.term-item.is, c.requires),
)
