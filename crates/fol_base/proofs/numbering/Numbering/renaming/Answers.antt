use Rattle.std.proofs.Common.{◌++◌, ◌∷◌, [], map, ap, ap₂, sym, ◌∙◌}
use Rattle.std.proofs.lemmas.List.{map-append}
use Rattle.std.specs.Prelude.{unwrap_or}
use Rattle.fol_base.specs.Tree.{variable}
use Rattle.fol_base.specs.Canonical.{renaming}
use Rattle.fol_base.specs.Term.{tree_of}
use Rattle.fol_base.specs.declared.term.Term.TheVariants.{Var}
use Rattle.fol_base.proofs.AboutCanonical.CanonicalLemmas.{terms_from_more}
use Rattle.fol_base.proofs.numbering.Numbering.renaming.Goals as goal

pub loop-index-preserved : goal.loop-index-preserved
loop-index-preserved c =
    ap (map tree_of) c.in_ok-push.ensures.items
    ∙ map-append tree_of c.loop-index.terms.items (Var c.unwrap_or.result ∷ [])
    ∙ ap₂ (λ ts v. ts ++ variable v ∷ []) c.loop-index.invariant
    (c.unwrap_or.ensures ∙ ap (λ o. unwrap_or o c.loop-index.index) c.get.ensures)
    ∙ sym (terms_from_more c.loop-index.index (renaming c.args.self.now))
