use Rattle.std.proofs.Common.{nat_eq}
use Rattle.std.specs.HashSet.{contains}
use Rattle.kernel_steps.proofs.AboutSplits.SplitTables.{met-more}
use Rattle.kernel_steps.proofs.split.put_all.Goals as goal

pub loop-number-preserved : goal.loop-number-preserved
loop-number-preserved c =
    met-more c.args.numbers.now c.loop-number.number-index c.loop-number-test.true (contains nat_eq c.args.met.now)
    (contains nat_eq c.loop-number.met) (contains nat_eq c.insert.new.self) c.loop-number.invariant c.in_ok-insert.ensures.updates.0
