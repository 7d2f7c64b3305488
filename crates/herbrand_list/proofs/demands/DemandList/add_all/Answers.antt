use Rattle.std.proofs.Common.{◌≤◌, List, map, ap, sym, subst, ◌∙◌}
use Rattle.std.specs.Prelude.{fold}
use Rattle.std.specs.Vec.Iter.{into_iter_items}
use Rattle.list_lemmas.proofs.Results.{err-passed}
use Rattle.herbrand_list.specs.Demands.{Demand, with_demand}
use Rattle.herbrand_list.specs.Worked.{constant_tree, listed, demand_of, weight_of}
use Rattle.herbrand_list.specs.declared.arriving.Demanded.{Demanded}
use Rattle.herbrand_list.proofs.AboutListing.WorkedLemmas.{weight-folded}
use Rattle.herbrand_list.proofs.AboutListing.FaultLemmas.{says-more}
use Rattle.herbrand_list.proofs.demands.DemandList.add_all.Goals as goal

pub loop-demand-preserved : goal.loop-demand-preserved
loop-demand-preserved c = record {
  is_listed = c.in_ok-add.ensures.listed;
  rest =
      ap (λ (ds : List Demand). fold with_demand ds (map demand_of (into_iter_items c.next.new.self))) c.in_ok-add.ensures.demands
      ∙ ap (λ (xs : List Demanded). fold with_demand (listed c.loop-demand.self) (map demand_of xs)) (sym c.in-Some.ensures.steps.0)
      ∙ c.loop-demand.invariant.rest;
}

pub returns-in_err-add-clause-large : goal.returns-in_err-add-clause-large
returns-in_err-add-clause-large c =
    let constant = constant_tree c.args.constant in
    let lines = c.args.lines.now in
    let mid = listed c.loop-demand.self in
    let d = demand_of c.in-Some.demand in
    err-passed _ _ _ c.from_residual.ensures.1
    (says-more _ _ _
    (subst (λ ds. weight_of constant lines (with_demand mid d) ≤ weight_of constant lines ds)
    (ap (λ (xs : List Demanded). fold with_demand mid (map demand_of xs)) (sym c.in-Some.ensures.steps.0) ∙ c.loop-demand.invariant.rest)
    (weight-folded constant lines (with_demand mid d) (map demand_of (into_iter_items c.next.new.self))))
    c.in_err-add.ensures.large)
