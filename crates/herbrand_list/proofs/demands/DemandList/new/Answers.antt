use Rattle.std.proofs.Common.{List, map, ap, subst, ◌∙◌}
use Rattle.list_lemmas.proofs.Results.{err-passed}
use Rattle.herbrand_list.specs.Demands.{Demand}
use Rattle.herbrand_list.specs.Worked.{constant_tree, listed, demand_of, weight_of, SaysLarge}
use Rattle.herbrand_list.proofs.AboutListing.ArrivalLemmas.{none-listed}
use Rattle.herbrand_list.proofs.AboutListing.ListLemmas.{first-demand}
use Rattle.herbrand_list.proofs.demands.DemandList.new.Goals as goal

pub add-requires : goal.add-requires
add-requires c =
    none-listed (constant_tree c.args.constant) c.args.lines.now _ _ _ _ (ap (map demand_of) c.in_ok-list.ensures.demands) c.in_ok-list.ensures.keys
    c.in_ok-list.ensures.count c.in_ok-list.ensures.rows c.in_ok-list.ensures.weight

pub returns-in_err-add-clause-large : goal.returns-in_err-add-clause-large
returns-in_err-add-clause-large c =
    err-passed _ _ _ c.from_residual-in_err-add.ensures.1
    (subst (λ (ds : List Demand). SaysLarge (weight_of (constant_tree c.args.constant) c.args.lines.now ds) c.in_err-add.field-0.0)
    (first-demand c.args.lines.now (listed c.in_ok-list.list) (demand_of c.last_line-last.result) (ap (map demand_of) c.in_ok-list.ensures.demands)
    c.last_line-last.ensures)
    c.in_err-add.ensures.large)

pub returns-clause-demands : goal.returns-clause-demands
returns-clause-demands c =
    c.in_ok-add.ensures.demands
    ∙ first-demand c.args.lines.now (listed c.in_ok-list.list) (demand_of c.last_line-last.result) (ap (map demand_of) c.in_ok-list.ensures.demands)
    c.last_line-last.ensures
