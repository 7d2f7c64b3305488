use Rattle.std.proofs.Common.{arith}
use Rattle.tptp_tree.proofs.SizeLemmas.{formula-item-is}
use Rattle.signature.proofs.OccurrenceLemmas.{formula-item}
use Rattle.signature.proofs.meeting.+meet_formula.Goals as goal

pub meet_formulas-meet_formula-requires : goal.meet_formulas-meet_formula-requires
meet_formulas-meet_formula-requires t c = (
  omega (arith, formula-item-is _ _ _ c.loop-formula-test.true c.formula-item.is, c.decreases),
  omega (arith, formula-item _ _ _ c.loop-formula-test.true c.formula-item.is, c.requires),
)
