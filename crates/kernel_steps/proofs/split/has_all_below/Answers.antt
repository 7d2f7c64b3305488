use Rattle.std.proofs.Common.{ap, ◌∙◌}
use Rattle.std.proofs.lemmas.List.{take_all}
use Rattle.std.specs.List.{list_all}
use Rattle.kernel_steps.specs.Split.{has_number}
use Rattle.kernel_steps.proofs.AboutSplits.SplitLoops.{all_found-whole}
use Rattle.kernel_steps.proofs.split.has_all_below.Goals as goal

pub returns : goal.returns
returns c =
    c.are_true.ensures
    ∙ ap (list_all (λ value. value)) c.as_slice.ensures.value
    ∙ all_found-whole c.loop-place.found.items c.args.places.now c.args.count c.loop-place.invariant.0
    (λ k below. c.loop-place.invariant.1 k below ∙ ap (has_number k) (take_all c.loop-place.place-index c.args.places.now c.loop-place-test.false))
