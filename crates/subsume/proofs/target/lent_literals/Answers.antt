use Rattle.std.proofs.Common.{◌∷◌, ◌++◌, [], map, sym, ◌∙◌, ap}
use Rattle.std.proofs.lemmas.List.{map-append}
use Rattle.fol_base.specs.Lent.{lent_of}
use Rattle.list_lemmas.proofs.Places.{take-more}
use Rattle.subsume.proofs.target.lent_literals.Goals as goal

pub loop-index-preserved : goal.loop-index-preserved
loop-index-preserved g c =
    ap (map lent_of) c.in_ok-push.ensures.items
    ∙ map-append lent_of c.loop-index.lent.items (c.literal.result ∷ [])
    ∙ ap (λ ls. ls ++ lent_of c.literal.result ∷ []) c.loop-index.invariant
    ∙ sym (take-more (g.L.LendsLiterals.meaning c.args.lender.now) c.loop-index.index (lent_of c.literal.result) c.literal.ensures)
