use Rattle.std.proofs.Common.{refl, arith}
use Rattle.skolem.proofs.AboutFormulas.OutlineLemmas.{name-outlined}
use Rattle.skolem.proofs.outline.named.Goals as goal

pub returns : goal.returns
returns c = λ t h.
    name-outlined c.args.part _ t c.args.began c.saturating_add-size.result c.min-clause.result c.in_ok-variables.variables.items
    (omega (arith, c.ranges.began.fits)) c.in_ok-variables.ensures.found (omega (arith, c.saturating_add-size.ensures, c.len.ensures))
    (omega (arith, c.saturating_add.ensures, c.min-clause.ensures)) refl c.min.ensures c.max.ensures refl h
