use Rattle.std.proofs.Common.{ap, sym, ◌∙◌}
use Rattle.fol_base.specs.declared.limits.TheConstants.{SIZE_LIMIT}
use Rattle.unifier.specs.SolvedForm.{SolvedForm}
use Rattle.unifier.specs.Renaming.{fits, is_within}
use Rattle.unifier.proofs.AboutEquations.SolutionLemmas.{variables-pass}
use Rattle.unifier.proofs.bindings.Bindings.apply.Goals as goal

pub apply-requires-clause-fits : goal.apply-requires-clause-fits
apply-requires-clause-fits c =
    sym (variables-pass (is_within c.self.inside.solution.apart SIZE_LIMIT SIZE_LIMIT) c.self.inside.solution.cells.items c.self.inside.solution.places.items)
    ∙ ap (λ (found : SolvedForm). fits found SIZE_LIMIT SIZE_LIMIT) c.self.view_is
    ∙ c.requires.fits
