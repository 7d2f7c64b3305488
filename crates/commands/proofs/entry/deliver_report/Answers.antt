use Rattle.std.proofs.Common.{inl}
use Rattle.commands.proofs.AboutPages.DeliveryLemmas.{delivered}
use Rattle.commands.proofs.entry.deliver_report.Goals as goal

pub returns : goal.returns
returns g c = (
  record {
    outcome = c.deliver.result;
    delivery =
        delivered _ c.args.text.now c.deliver.result c.deliver.ensures.whole c.deliver.ensures.stays c.deliver.ensures.cause c.deliver.ensures.prefix;
    status_is = c.status_after.ensures;
  },
  inl c.deliver.ensures.writes,
)
