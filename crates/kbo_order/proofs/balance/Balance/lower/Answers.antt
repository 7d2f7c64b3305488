use Rattle.std.proofs.Common.{ℕ, ◌==◌, ◌-◌, ◌^◌, get_or, arith}
use Rattle.std.proofs.Math.ListN.{length-set}
use Rattle.kbo_order.proofs.AboutReading.BitLemmas.{byte-bit, bit-most}
use Rattle.kbo_order.proofs.AboutReading.LevelLemmas.{lowered-above, lowered-below, below-bound}
use Rattle.kbo_order.proofs.balance.Balance.lower.Goals as goal

pub overflow_add-self : goal.overflow_add-self
overflow_add-self c =
    let level = get_or c.args.self.now.counts c.args.index 0 == 2 ^ 63 in
    omega (arith, below-bound c.args.self.now.counts, byte-bit level, bit-most level)

pub overflow_sub-self : goal.overflow_sub-self
overflow_sub-self c =
    omega (
      arith,
      lowered-above c.args.self.now.counts c.args.index (omega arith) c.requires.room,
      byte-bit (get_or c.args.self.now.counts c.args.index 0 - 1 == 2 ^ 63),
    )

pub returns-clause-consistent : goal.returns-clause-consistent
returns-clause-consistent c =
    let counts = c.args.self.now.counts in
    let i = c.args.index in
    record {
      width = omega (arith, length-set {A = ℕ});
      more_left = omega (arith, lowered-above counts i (omega arith) c.requires.room, byte-bit (get_or counts i 0 - 1 == 2 ^ 63));
      more_right = omega (arith, lowered-below counts i (omega arith) c.requires.room, byte-bit (get_or counts i 0 == 2 ^ 63));
    }
