use Rattle.std.proofs.Common.{ap}
use Rattle.disc_tree.specs.Rows.{all_at}
use Rattle.disc_tree.proofs.AboutChanges.TailEdits.{tail-empty}
use Rattle.disc_tree.proofs.tail.Tail.is_empty.Goals as goal

pub returns : goal.returns
returns c = (
  λ h. ap (all_at c.args.self.now.labels.items) (c.is_empty.ensures.0 h),
  λ h. c.is_empty.ensures.1 (tail-empty c.args.self.now.labels.items c.args.self.now.entries h),
)
