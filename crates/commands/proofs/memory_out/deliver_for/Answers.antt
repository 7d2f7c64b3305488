use Rattle.std.proofs.Common.{◌++◌, codes}
use Rattle.std.specs.Prelude.{Ok}
use Rattle.command_reports.specs.Names.{problem_name}
use Rattle.commands.specs.Run.{at_once}
use Rattle.commands.proofs.AboutPages.DeliveryLemmas.{delivered, handed_on, cut_short, then_cut, three_pieces, pieces-both, pieces-cut, pieces-handed_on}
use Rattle.commands.proofs.memory_out.deliver_for.Goals as goal

pub returns-in_err-deliver-clause-taken : goal.returns-in_err-deliver-clause-taken
returns-in_err-deliver-clause-taken g c =
    handed_on _ _ c.from_residual.result _ c.from_residual.ensures.1
    (cut_short _ (codes " for " ++ problem_name c.args.file.now) (codes "\n")
    (cut_short _ (codes " for ") (problem_name c.args.file.now) (c.in_err-deliver.ensures.cause, c.in_err-deliver.ensures.prefix)))

pub returns-in_err-deliver-clause-writes : goal.returns-in_err-deliver-clause-writes
returns-in_err-deliver-clause-writes g c =
    pieces-handed_on g.S.Sink.gives _ _ _ c.from_residual.result _ c.from_residual.ensures.1
    (pieces-cut g.S.Sink.gives _ _ (codes " for " ++ problem_name c.args.file.now) (codes "\n") _
    (pieces-cut g.S.Sink.gives _ _ (codes " for ") (problem_name c.args.file.now) _ (at_once c.in_err-deliver.ensures.writes)))

pub returns-in_err-deliver_problem_name-clause-taken : goal.returns-in_err-deliver_problem_name-clause-taken
returns-in_err-deliver_problem_name-clause-taken g c =
    handed_on _ _ c.from_residual-in_err-deliver_problem_name.result _ c.from_residual-in_err-deliver_problem_name.ensures.1
    (cut_short _ (codes " for " ++ problem_name c.args.file.now) (codes "\n")
    (then_cut _ _ _ _ _ _ (codes " for ") (problem_name c.args.file.now) c.in_ok-deliver.ensures.whole c.in_ok-deliver.ensures.stays
    c.in_err-deliver_problem_name.ensures.taken))

pub returns-in_err-deliver_problem_name-clause-writes : goal.returns-in_err-deliver_problem_name-clause-writes
returns-in_err-deliver_problem_name-clause-writes g c =
    pieces-handed_on g.S.Sink.gives _ _ _ c.from_residual-in_err-deliver_problem_name.result _ c.from_residual-in_err-deliver_problem_name.ensures.1
    (pieces-cut g.S.Sink.gives _ _ (codes " for " ++ problem_name c.args.file.now) (codes "\n") _
    (pieces-both g.S.Sink.gives _ _ _ (codes " for ") (problem_name c.args.file.now) _ (at_once c.in_ok-deliver.ensures.writes)
    c.in_err-deliver_problem_name.ensures.writes))

pub returns-clause-taken : goal.returns-clause-taken
returns-clause-taken g c =
    three_pieces _ _ _ _ _ _ _ _ (codes " for ") (problem_name c.args.file.now) (codes "\n") c.deliver-2.result c.in_ok-deliver.ensures.whole
    c.in_ok-deliver.ensures.stays c.in_ok-deliver_problem_name.ensures.taken
    (delivered _ (codes "\n") c.deliver-2.result c.deliver-2.ensures.whole c.deliver-2.ensures.stays c.deliver-2.ensures.cause c.deliver-2.ensures.prefix)

pub returns-clause-writes : goal.returns-clause-writes
returns-clause-writes g c =
    pieces-both g.S.Sink.gives _ _ _ (codes " for " ++ problem_name c.args.file.now) (codes "\n") c.deliver-2.result
    (pieces-both g.S.Sink.gives _ _ _ (codes " for ") (problem_name c.args.file.now) (Ok tt) (at_once c.in_ok-deliver.ensures.writes)
    c.in_ok-deliver_problem_name.ensures.writes)
    (at_once c.deliver-2.ensures.writes)
