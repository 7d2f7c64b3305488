use Rattle.std.proofs.Common.{ap, ◌∙◌, Err, arith}
use Rattle.std.specs.Option.{option_copied}
use Rattle.std.proofs.lemmas.Result.{IfOk-weaker}
use Rattle.commands.specs.Problems.{source_at}
use Rattle.commands.proofs.AboutPages.AnswerLemmas.{stop-reports, loaded, listing-reports, long-listing-reports, unloaded, lost-listing-reports}
use Rattle.commands.proofs.ground.ground_report.Goals as goal

pub returns-in-Err : goal.returns-in-Err
returns-in-Err g c =
    IfOk-weaker c.report.result _ _
    (λ report h. stop-reports _ _ _ c.in-Err.stop report.status report.text c.in-Err.ensures.stopped h)
    c.report.ensures

pub returns-in-Ok-load : goal.returns-in-Ok-load
returns-in-Ok-load g c =
    listing-reports c.listing_report.result _ (source_at c.args.file.now (option_copied c.args.root)) c.args.derivation.now c.as_slice.result.now
    c.in-Ok.formed c.in-Ok.ensures.formed
    (loaded _ (g.L.Library.told c.formed_problem.new.library) c.args.derivation.now c.as_slice.result.now c.in-Ok-load.text.items
    c.formed_problem.ensures.told c.in-Ok-load.ensures.bytes c.as_slice.ensures.value
    (omega (arith, c.as_slice.ensures.len, c.in-Ok-load.ensures.within)))
    c.listing_report.ensures

pub returns-in-Err-TooLong : goal.returns-in-Err-TooLong
returns-in-Err-TooLong g c =
    long-listing-reports c.refused.result _ (source_at c.args.file.now (option_copied c.args.root)) c.args.derivation.now c.in-Ok.formed
    (g.L.Library.told c.formed_problem.new.library) c.in-Ok.ensures.formed c.formed_problem.ensures.told
    (c.load.ensures.too_long (c.in-Err-TooLong.is ∙ ap Err c.in-Err-TooLong.field-0-is)) c.refused.ensures

pub returns-in-Err-Failed : goal.returns-in-Err-Failed
returns-in-Err-Failed g c =
    let fails = c.in-Err-Failed.is ∙ ap Err c.in-Err-Failed.field-0-is in
    lost-listing-reports c.unloaded.result _ (source_at c.args.file.now (option_copied c.args.root)) c.args.derivation.now c.as_bytes.result.now
    c.in-Ok.formed c.in-Ok.ensures.formed
    (unloaded _ c.load.result c.args.derivation.now c.as_bytes.result.now (g.L.Library.faults c.formed_problem.new.library)
    (g.L.Library.failed c.formed_problem.new.library) fails c.formed_problem.ensures.later (c.load.ensures.cause fails) c.as_bytes.ensures.value
    c.load.ensures.failed)
    c.unloaded.ensures
