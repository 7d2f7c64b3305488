use Rattle.std.proofs.Common.{List, map, ap, ◌∙◌}
use Rattle.fol_base.specs.Tree.{Tree}
use Rattle.fol_base.specs.Instance.{instance}
use Rattle.list_lemmas.proofs.Results.{err-passed}
use Rattle.herbrand_list.specs.Demands.{put_in}
use Rattle.herbrand_list.specs.Worked.{constant_tree, putting, stopped_size, bound_demand, demand_weight}
use Rattle.herbrand_list.proofs.AboutListing.SizeLemmas.{sizes-put, size-light}
use Rattle.herbrand_list.proofs.AboutListing.FaultLemmas.{says-more}
use Rattle.herbrand_list.proofs.arriving.demanded_parent.Goals as goal

pub returns-in_err-heavier-clause-large : goal.returns-in_err-heavier-clause-large
returns-in_err-heavier-clause-large c =
    let σ = putting c.args.put.now in
    let constant = constant_tree c.args.put.now.constant in
    let bind = c.args.bind.now in
    let sizes =
    c.in_ok-bound.ensures σ c.requires
    ∙ ap (λ (ts : List Tree). map stopped_size (map (instance σ) ts)) c.as_slice.ensures in
    let size = c.size_of_line-size.ensures (put_in constant (map (instance σ) bind)) (sizes-put c.args.put.now.constant (map (instance σ) bind) c.as_slice-2.result.now (c.as_slice-2.ensures.value ∙ sizes)) in
    err-passed _ _ _ c.from_residual-in_err-heavier.ensures.1
    (says-more _ (demand_weight constant c.args.lines.now (bound_demand σ c.args.parent bind)) _
    (size-light constant c.args.lines.now σ c.args.parent bind c.size_of_line-size.result size) c.in_err-heavier.ensures.large)
