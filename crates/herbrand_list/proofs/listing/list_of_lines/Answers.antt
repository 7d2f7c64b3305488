use Rattle.std.proofs.Common.{◌≤◌, List, map, length, ap, subst, ◌∙◌}
use Rattle.list_lemmas.proofs.Results.{err-passed}
use Rattle.herbrand_list.specs.declared.fault.TheConstants.{MOST_WEIGHT}
use Rattle.herbrand_list.specs.Demands.{Demand}
use Rattle.herbrand_list.specs.GroundList.{instances_below}
use Rattle.herbrand_list.specs.Answer.{nameless}
use Rattle.herbrand_list.specs.Worked.{constant_tree, weight_of}
use Rattle.herbrand_list.proofs.listing.list_of_lines.Goals as goal

pub returns-in_err-demands-clause-large : goal.returns-in_err-demands-clause-large
returns-in_err-demands-clause-large c = err-passed _ _ _ c.from_residual.ensures.1 c.in_err-demands.ensures.large

pub returns-clause-light : goal.returns-clause-light
returns-clause-light c =
    let constant = constant_tree c.args.constant in
    let lines = c.args.lines.now in
    subst (λ k. k ≤ MOST_WEIGHT)
    (c.in_ok-demands.ensures.listed.weighed ∙ ap (weight_of constant lines) c.in_ok-demands.ensures.demands)
    c.in_ok-demands.ensures.listed.light

pub returns-clause-list : goal.returns-clause-list
returns-clause-list c =
    let constant = constant_tree c.args.constant in
    let lines = c.args.lines.now in
    c.in_ok-list.ensures
    ∙ ap (λ (ds : List Demand). map nameless (instances_below constant lines ds (length lines))) c.in_ok-demands.ensures.demands
