use Rattle.std.proofs.Common.{arith}
use Rattle.tptp_tree.proofs.SizeLemmas.{term-item-is}
use Rattle.tstp_checker.proofs.hashing.+hash_term.Goals as goal

pub hash_terms-hash_term-requires : goal.hash_terms-hash_term-requires
hash_terms-hash_term-requires g t c κs within =
    (omega (arith, term-item-is _ _ _ c.loop-term-test.true c.term-item.is, c.decreases), within)
