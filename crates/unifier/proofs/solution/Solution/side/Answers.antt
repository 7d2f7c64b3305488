use Rattle.std.proofs.Common.{◌++◌, ◌∷◌, [], map, ap, ap₂, sym, ◌∙◌}
use Rattle.std.proofs.lemmas.List.{map-append}
use Rattle.fol_base.specs.Term.{tree_of}
use Rattle.fol_base.proofs.AboutCanonical.CanonicalLemmas.{terms_from_more}
use Rattle.unifier.specs.Solution.{solved_form}
use Rattle.unifier.specs.SolvedForm.{joint, substitution_of}
use Rattle.unifier.specs.Renaming.{renamed}
use Rattle.unifier.proofs.solution.Solution.side.Goals as goal

pub loop-variable-preserved : goal.loop-variable-preserved
loop-variable-preserved g c =
    ap (map tree_of) c.in_ok-push.ensures.items
    ∙ map-append tree_of c.loop-variable.items.items (c.in_ok-named.field-0 ∷ [])
    ∙ ap₂ (λ ts t. ts ++ t ∷ []) c.loop-variable.invariant
    (c.in_ok-named.ensures ∙ ap (λ w. renamed (g.N.Naming.meaning c.args.names.now) (joint (solved_form c.args.self.now) w)) c.code.ensures)
    ∙ sym (terms_from_more c.loop-variable.variable (λ v. renamed (g.N.Naming.meaning c.args.names.now) (substitution_of (solved_form c.args.self.now) c.args.side v)))
