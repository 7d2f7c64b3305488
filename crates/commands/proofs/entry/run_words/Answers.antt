use Rattle.std.proofs.Common.{refl, sym, inl, inr, ap}
use Rattle.command_reports.specs.Reports.{memory_out_report}
use Rattle.command_words.specs.WordParts.{command_meant}
use Rattle.command_words.proofs.AboutWords.WordLemmas.{commands-fit}
use Rattle.commands.proofs.AboutRuns.RunLemmas.{run_usage, run_due, due_text}
use Rattle.commands.proofs.entry.run_words.Goals as goal

pub returns-in-None : goal.returns-in-None
returns-in-None g c = run_usage g.S.Sink.gives _ _ _ _ _ _ c.in-None.ensures refl c.deliver_report.ensures

pub returns-in-Ok : goal.returns-in-Ok
returns-in-Ok g c =
    run_due g.S.Sink.gives _ _ _ _ _ (command_meant c.in-Some.command) c.in-Ok.report.status c.as_slice.result.now _ c.in-Some.ensures
    (inl (due_text _ _ _ _ _ (sym c.as_slice.ensures) c.in-Ok.ensures)) c.deliver_report-in-Ok.ensures

pub returns-in-Err : goal.returns-in-Err
returns-in-Err g c =
    run_due g.S.Sink.gives _ _ _ _ _ (command_meant c.in-Some.command) 7 (memory_out_report c.file_of.result.now) _ c.in-Some.ensures
    (inr (refl, ap memory_out_report c.file_of.ensures)) c.report_memory_out.ensures

pub report_to-requires : goal.report_to-requires
report_to-requires g c = (
  c.type_bounds.sync-R,
  (record { shared = c.type_bounds.sync-G.shared }, commands-fit c.args.words.now (command_meant c.in-Some.command) c.in-Some.ensures),
)
