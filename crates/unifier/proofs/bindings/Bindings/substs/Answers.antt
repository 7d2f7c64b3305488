use Rattle.std.proofs.Common.{ap, sym, ◌∙◌}
use Rattle.unifier.specs.SolvedForm.{SolvedForm}
use Rattle.unifier.specs.Renaming.{fits, is_within}
use Rattle.unifier.proofs.AboutEquations.SolutionLemmas.{variables-pass}
use Rattle.unifier.proofs.bindings.Bindings.substs.Goals as goal

pub substs-requires-clause-fits : goal.substs-requires-clause-fits
substs-requires-clause-fits c =
    sym (variables-pass (is_within c.self.inside.solution.apart c.args.left_vars c.args.right_vars) c.self.inside.solution.cells.items c.self.inside.solution.places.items)
    ∙ ap (λ (found : SolvedForm). fits found c.args.left_vars c.args.right_vars) c.self.view_is
    ∙ c.requires.fits
