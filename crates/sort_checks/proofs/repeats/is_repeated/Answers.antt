use Rattle.std.proofs.Common.{take, ap, sym, ◌∙◌}
use Rattle.sort_checks.specs.Lent.{body_lent, declared_among}
use Rattle.sort_checks.specs.Tables.{repeats}
use Rattle.sort_checks.proofs.LookupLemmas.{earlier-there}
use Rattle.sort_checks.proofs.repeats.is_repeated.Goals as goal

pub returns-in-Declared : goal.returns-in-Declared
returns-in-Declared c =
    c.is_some.ensures ∙ earlier-there c.earlier.result _ c.earlier.ensures
    ∙ ap (λ b. repeats (declared_among (take c.args.index c.args.table.now)) (body_lent b)) (sym c.in-Declared.is)
