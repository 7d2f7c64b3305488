use Rattle.std.proofs.Common.{[], ◌∷◌, map, sym, subst}
use Rattle.list_lemmas.proofs.Results.{err-passed}
use Rattle.fol_base.specs.Term.{tree_of}
use Rattle.kernel_steps.specs.declared.step.Step.{Step}
use Rattle.herbrand_list.specs.Demands.{demanded_by}
use Rattle.herbrand_list.specs.Worked.{constant_tree, putting, bound_demand, SaysThat, OneIsLarge}
use Rattle.herbrand_list.proofs.AboutListing.FaultLemmas.{first-large, second-large}
use Rattle.herbrand_list.proofs.arriving.demanded_parents.Goals as goal

pub returns-in_err-demanded_parent-in-Para-clause-large : goal.returns-in_err-demanded_parent-in-Para-clause-large
returns-in_err-demanded_parent-in-Para-clause-large c =
    let σ = putting c.args.put.now in
    let constant = constant_tree c.args.put.now.constant in
    let lines = c.args.lines.now in
    let fault = c.in_err-demanded_parent-in-Para.field-0.0 in
    err-passed _ _ _ c.from_residual-in_err-demanded_parent-in-Para.ensures.1
    (subst (λ (s : Step). SaysThat (OneIsLarge constant lines (demanded_by constant s (map tree_of c.args.put.now.terms.now))) fault) (sym c.in-Para.is)
    (first-large constant lines (bound_demand σ c.in-Para.first c.in-Para.first_bind)
    (bound_demand σ c.in-Para.second c.in-Para.second_bind ∷ []) fault c.in_err-demanded_parent-in-Para.ensures.large))

pub returns-in_err-demanded_parent-in-Para-2-clause-large : goal.returns-in_err-demanded_parent-in-Para-2-clause-large
returns-in_err-demanded_parent-in-Para-2-clause-large c =
    let σ = putting c.args.put.now in
    let constant = constant_tree c.args.put.now.constant in
    let lines = c.args.lines.now in
    let fault = c.in_err-demanded_parent-in-Para-2.field-0.0 in
    err-passed _ _ _ c.from_residual-in_err-demanded_parent-in-Para-2.ensures.1
    (subst (λ (s : Step). SaysThat (OneIsLarge constant lines (demanded_by constant s (map tree_of c.args.put.now.terms.now))) fault) (sym c.in-Para.is)
    (second-large constant lines (bound_demand σ c.in-Para.first c.in-Para.first_bind) (bound_demand σ c.in-Para.second c.in-Para.second_bind)
    fault c.in_err-demanded_parent-in-Para-2.ensures.large))

pub returns-in_err-demanded_parent-in-Refl-clause-large : goal.returns-in_err-demanded_parent-in-Refl-clause-large
returns-in_err-demanded_parent-in-Refl-clause-large c =
    let σ = putting c.args.put.now in
    let constant = constant_tree c.args.put.now.constant in
    let lines = c.args.lines.now in
    let fault = c.in_err-demanded_parent-in-Refl.field-0.0 in
    err-passed _ _ _ c.from_residual-in_err-demanded_parent-in-Refl.ensures.1
    (subst (λ (s : Step). SaysThat (OneIsLarge constant lines (demanded_by constant s (map tree_of c.args.put.now.terms.now))) fault) (sym c.in-Refl.is)
    (first-large constant lines (bound_demand σ c.in-Refl.parent c.in-Refl.bind) [] fault c.in_err-demanded_parent-in-Refl.ensures.large))

pub returns-in_err-demanded_parent-in-Factor-clause-large : goal.returns-in_err-demanded_parent-in-Factor-clause-large
returns-in_err-demanded_parent-in-Factor-clause-large c =
    let σ = putting c.args.put.now in
    let constant = constant_tree c.args.put.now.constant in
    let lines = c.args.lines.now in
    let fault = c.in_err-demanded_parent-in-Factor.field-0.0 in
    err-passed _ _ _ c.from_residual-in_err-demanded_parent-in-Factor.ensures.1
    (subst (λ (s : Step). SaysThat (OneIsLarge constant lines (demanded_by constant s (map tree_of c.args.put.now.terms.now))) fault) (sym c.in-Factor.is)
    (first-large constant lines (bound_demand σ c.in-Factor.parent c.in-Factor.bind) [] fault c.in_err-demanded_parent-in-Factor.ensures.large))

pub returns-in_err-demanded_parent-in-Merge-clause-large : goal.returns-in_err-demanded_parent-in-Merge-clause-large
returns-in_err-demanded_parent-in-Merge-clause-large c =
    let σ = putting c.args.put.now in
    let constant = constant_tree c.args.put.now.constant in
    let lines = c.args.lines.now in
    let fault = c.in_err-demanded_parent-in-Merge.field-0.0 in
    err-passed _ _ _ c.from_residual-in_err-demanded_parent-in-Merge.ensures.1
    (subst (λ (s : Step). SaysThat (OneIsLarge constant lines (demanded_by constant s (map tree_of c.args.put.now.terms.now))) fault) (sym c.in-Merge.is)
    (first-large constant lines (bound_demand σ c.in-Merge.parent c.in-Merge.bind) [] fault c.in_err-demanded_parent-in-Merge.ensures.large))
