use Rattle.std.proofs.Common.{ap, ◌∙◌}
use Rattle.std.specs.Prelude.{option_and_then, slice_get}
use Rattle.tstp_checker.proofs.AboutVerdicts.ClassLemmas.{classes-tell}
use Rattle.tstp_checker.proofs.classes.Classes.same.Goals as goal

pub returns : goal.returns
returns c = λ fs known.
    classes-tell fs c.args.self.now c.args.place c.args.other _ _ _ known
    (c.first-first.ensures ∙ ap (λ p. option_and_then (λ o. o) (slice_get c.args.self.now.firsts.items p)) c.from.ensures)
    c.first-other_first.ensures c.same_place.ensures
