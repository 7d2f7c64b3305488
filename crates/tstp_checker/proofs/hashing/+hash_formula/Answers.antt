use Rattle.std.proofs.Common.{arith}
use Rattle.tptp_tree.proofs.SizeLemmas.{formula-item-is}
use Rattle.tstp_checker.proofs.hashing.+hash_formula.Goals as goal

pub hash_formulas-hash_formula-requires : goal.hash_formulas-hash_formula-requires
hash_formulas-hash_formula-requires g t c κs within =
    (omega (arith, formula-item-is _ _ _ c.loop-operand-test.true c.operand-item.is, c.decreases), within)
