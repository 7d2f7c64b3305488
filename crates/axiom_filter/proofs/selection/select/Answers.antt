use Rattle.std.proofs.Common.{◌≡◌, ap, ◌∙◌}
use Rattle.std.proofs.lemmas.Result.{IfOk-weaker}
use Rattle.kernel_steps.specs.Marks.{marked_numbers}
use Rattle.axiom_filter.specs.Places.{places_from}
use Rattle.axiom_filter.specs.Selection.{is_kept, kept_places}
use Rattle.axiom_filter.proofs.AboutSelections.KeptLemmas.{places-marked}
use Rattle.axiom_filter.proofs.selection.select.Goals as goal

pub returns : goal.returns
returns c =
    IfOk-weaker c.marked.result (λ kept. kept ≡ marked_numbers 0 c.as_slice-2.result.now)
    (λ kept. kept ≡ kept_places c.args.tolerance c.args.depth c.args.problem.now.formulas)
    (λ kept e.
    e ∙ ap (marked_numbers 0) (c.as_slice-2.ensures.value ∙ c.in_ok-marks.ensures)
    ∙ places-marked 0 (is_kept c.args.tolerance c.args.depth c.as_slice.result.now) c.as_slice.result.now
    ∙ ap (λ fs. places_from 0 (is_kept c.args.tolerance c.args.depth fs) fs) c.as_slice.ensures)
    c.marked.ensures
