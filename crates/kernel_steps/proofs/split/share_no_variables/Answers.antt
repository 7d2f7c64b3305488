use Rattle.std.proofs.Common.{map, ap, ◌∙◌}
use Rattle.std.proofs.lemmas.Result.{IfOk-weaker}
use Rattle.fol_base.specs.Literal.{literal_of}
use Rattle.kernel_steps.proofs.AboutSplits.SplitLoops.{share_no_variables-read}
use Rattle.kernel_steps.proofs.split.share_no_variables.Goals as goal

pub returns : goal.returns
returns c =
    IfOk-weaker c.share_no_numbers.result _ _
    (λ apart is.
    is
    ∙ share_no_variables-read (map literal_of c.args.literals.now) c.args.parts.now _ c.loop-part.part-index c.loop-part-test.false
    (ap (map (λ list. list.items)) c.as_slice-2.ensures.value ∙ c.loop-part.invariant))
    c.share_no_numbers.ensures
