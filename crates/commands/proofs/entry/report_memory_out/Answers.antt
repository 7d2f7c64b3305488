use Rattle.std.proofs.Common.{refl, inr}
use Rattle.commands.proofs.entry.report_memory_out.Goals as goal

pub returns : goal.returns
returns g c = (
  record {
    outcome = c.deliver_memory_out.result;
    delivery = c.deliver_memory_out.ensures.taken;
    status_is = c.status_after.ensures;
  },
  inr (refl, c.deliver_memory_out.ensures.writes),
)
