use Rattle.std.proofs.Common.{[], ◌∷◌, ◌++◌, map, ap, sym, ◌∙◌}
use Rattle.std.proofs.lemmas.List.{map-append}
use Rattle.fol_base.specs.Tree.{variable}
use Rattle.fol_base.specs.Term.{tree_of}
use Rattle.fol_base.specs.declared.term.Term.TheVariants.{Var}
use Rattle.fol_base.proofs.AboutCanonical.CanonicalLemmas.{terms_from_more}
use Rattle.demodulate.proofs.line.own_terms.Goals as goal

pub loop-number-preserved : goal.loop-number-preserved
loop-number-preserved c =
    let n = c.loop-number.number in
    ap (map tree_of) c.in_ok-push.ensures.items
    ∙ map-append tree_of c.loop-number.items.items (Var n ∷ [])
    ∙ ap (λ ts. ts ++ variable n ∷ []) c.loop-number.invariant
    ∙ sym (terms_from_more n variable)
