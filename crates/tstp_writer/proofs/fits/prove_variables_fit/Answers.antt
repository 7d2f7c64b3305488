use Rattle.std.proofs.Common.{sym, subst, ⊎_elim}
use Rattle.std.specs.Prelude.{flat_map}
use Rattle.std.specs.List.{AllByRecursion}
use Rattle.fol_base.specs.Tree.{tree_variables}
use Rattle.kernel_steps.specs.declared.step.Step.{Step}
use Rattle.tstp_writer.specs.ReadableLines.{Fits, bound_by}
use Rattle.tstp_writer.proofs.AboutPrinted.FitLemmas.{one-fits, two-fit}
use Rattle.tstp_writer.proofs.fits.prove_variables_fit.Goals as goal

-- the variables of what a step binds
abbrev AreCounted : Step → Type 0
AreCounted step = AllByRecursion Fits (flat_map tree_variables (bound_by step))

pub returns-in-Para : goal.returns-in-Para
returns-in-Para c =
    subst AreCounted (sym c.in-Para.is)
    (two-fit c.in-Para.first_bind c.in-Para.second_bind c.variable_bound.result c.variable_bound-in-Para.result c.variable_bound.ensures.value
    c.variable_bound.ensures.limit c.variable_bound-in-Para.ensures.value c.variable_bound-in-Para.ensures.limit)

pub returns-in-Refl : goal.returns-in-Refl
returns-in-Refl c =
    let fits =
    one-fits c.in-Refl.bind c.variable_bound-in-Refl.result c.variable_bound-in-Refl.ensures.value c.variable_bound-in-Refl.ensures.limit in
    ⊎_elim (λ refl_step. subst AreCounted (sym refl_step.2) fits)
    (⊎_elim (λ factor_step. subst AreCounted (sym factor_step.5) fits) (λ merge_step. subst AreCounted (sym merge_step.3) fits))
    c.in-Refl.is
