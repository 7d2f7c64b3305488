use Rattle.std.proofs.Common.{Some, ap, ◌∙◌}
use Rattle.tstp_checker.proofs.AboutDerivations.TakenLemmas.{named-place}
use Rattle.tstp_checker.proofs.taken.TakenLines.place.Goals as goal

pub returns-in_err-number : goal.returns-in_err-number
returns-in_err-number c =
    c.from_residual.ensures ∙ c.in_err-number.ensures.value ∙ named-place c.args.self.now c.args.name.now c.requires

pub returns : goal.returns
returns c = ap (λ n. Some n) c.from.ensures ∙ c.in_ok-number.ensures.value ∙ named-place c.args.self.now c.args.name.now c.requires
