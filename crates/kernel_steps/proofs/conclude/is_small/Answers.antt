use Rattle.std.proofs.Common.{◌^◌, ◌-◌, ap, ◌∙◌, nat_le, arith}
use Rattle.fol_base.specs.declared.limits.TheConstants.{MOST_BOUND_SYMBOLS}
use Rattle.kernel_steps.proofs.AboutCalls.LoopLemmas.{stopped_within}
use Rattle.kernel_steps.proofs.conclude.is_small.Goals as goal

pub returns : goal.returns
returns c = ap (λ n. nat_le n MOST_BOUND_SYMBOLS) c.bound_size.ensures ∙ stopped_within _ (2 ^ 64 - 1) MOST_BOUND_SYMBOLS (omega arith)
