use Rattle.std.proofs.Common.{◌^◌, ap, ◌∙◌}
use Rattle.plain_types.specs.Capped.{capped}
use Rattle.finite_models.proofs.AboutLoops.MeasureLemmas.{capped-power}
use Rattle.finite_models.proofs.measuring.power.Goals as goal

pub returns : goal.returns
returns c =
    c.saturating_pow.ensures
    ∙ ap (λ b. capped (b ^ c.min.result)) c.from.ensures
    ∙ ap (λ k. capped (c.args.base ^ k)) c.min.ensures ∙ capped-power c.args.base c.args.exponent
