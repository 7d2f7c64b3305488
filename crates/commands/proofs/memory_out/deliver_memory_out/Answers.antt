use Rattle.std.proofs.Common.{codes}
use Rattle.command_reports.specs.Reports.{for_problem}
use Rattle.commands.specs.Run.{at_once}
use Rattle.commands.proofs.AboutPages.DeliveryLemmas.{handed_on, cut_short, then_piece, pieces-both, pieces-cut, pieces-handed_on}
use Rattle.commands.proofs.memory_out.deliver_memory_out.Goals as goal

pub returns-in_err-deliver-clause-taken : goal.returns-in_err-deliver-clause-taken
returns-in_err-deliver-clause-taken g c =
    handed_on _ _ c.from_residual.result _ c.from_residual.ensures.1
    (cut_short _ (codes "% SZS status MemoryOut") (for_problem c.args.file.now) (c.in_err-deliver.ensures.cause, c.in_err-deliver.ensures.prefix))

pub returns-in_err-deliver-clause-writes : goal.returns-in_err-deliver-clause-writes
returns-in_err-deliver-clause-writes g c =
    pieces-handed_on g.S.Sink.gives _ _ _ c.from_residual.result _ c.from_residual.ensures.1
    (pieces-cut g.S.Sink.gives _ _ (codes "% SZS status MemoryOut") (for_problem c.args.file.now) _ (at_once c.in_err-deliver.ensures.writes))

pub returns-clause-taken : goal.returns-clause-taken
returns-clause-taken g c =
    then_piece _ _ _ _ _ _ (codes "% SZS status MemoryOut") (for_problem c.args.file.now) c.deliver_for.result c.in_ok-deliver.ensures.whole
    c.in_ok-deliver.ensures.stays c.deliver_for.ensures.taken

pub returns-clause-writes : goal.returns-clause-writes
returns-clause-writes g c =
    pieces-both g.S.Sink.gives _ _ _ (codes "% SZS status MemoryOut") (for_problem c.args.file.now) c.deliver_for.result
    (at_once c.in_ok-deliver.ensures.writes) c.deliver_for.ensures.writes
