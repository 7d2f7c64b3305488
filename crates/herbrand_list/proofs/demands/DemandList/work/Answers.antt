use Rattle.std.proofs.Common.{◌+◌, ◌<◌, ◌≤◌, [], List, length, get_or, refl, ap, sym, subst, arith, ◌∙◌}
use Rattle.std.specs.Prelude.{flat_map, fold}
use Rattle.std.proofs.lemmas.List.{take_all}
use Rattle.list_lemmas.proofs.Results.{err-passed}
use Rattle.fol_base.specs.Tree.{Tree}
use Rattle.herbrand_list.specs.Demands.{bound_parents, demanded_by, with_demand, terms_for, step_at, worked}
use Rattle.herbrand_list.specs.Worked.{constant_tree, listed, weight_of}
use Rattle.herbrand_list.proofs.AboutListing.ArrivalLemmas.{row-length}
use Rattle.herbrand_list.proofs.AboutListing.WorkedLemmas.{terms-demanded, step-more, part-lighter}
use Rattle.herbrand_list.proofs.AboutListing.FaultLemmas.{says-more}
use Rattle.herbrand_list.proofs.demands.DemandList.work.Goals as goal

pub loop-index-init : goal.loop-index-init
loop-index-init c = record { is_listed = c.requires.listed; so_far = refl; own = refl }

pub work_demand-requires : goal.work_demand-requires
work_demand-requires c =
    let constant = constant_tree c.args.constant in
    let lines = c.args.lines.now in
    let n = c.args.number in
    let before = row-length constant lines (listed c.args.self.now) _ _ _ n c.requires.listed c.requires.there in
    let now = row-length constant lines (listed c.loop-index.self) _ _ _ n c.loop-index.invariant.is_listed c.requires.there in
    let same = ap (λ (ts : List (List Tree)). length ts) c.loop-index.invariant.own in
    record {
      there = c.requires.there;
      demanded = omega (arith, c.loop-index-test.true, c.count-index-end.ensures, before, now, same);
      listed = c.loop-index.invariant.is_listed;
    }

pub returns-in_err-work_demand-clause-large : goal.returns-in_err-work_demand-clause-large
returns-in_err-work_demand-clause-large c =
    let constant = constant_tree c.args.constant in
    let lines = c.args.lines.now in
    let n = c.args.number in
    let i = c.loop-index.index in
    let before = listed c.args.self.now in
    let mid = listed c.loop-index.self in
    let long = row-length constant lines before _ _ _ n c.requires.listed c.requires.there in
    let low : i < length (terms_for n before) = omega (arith, c.loop-index-test.true, c.count-index-end.ensures, long) in
    err-passed _ _ _ c.from_residual.ensures.1
    (says-more (weight_of constant lines (fold with_demand mid (demanded_by constant (step_at lines n) (get_or (terms_for n mid) i []))))
    (weight_of constant lines (worked constant lines n before)) _
    (subst (λ ds. weight_of constant lines ds ≤ weight_of constant lines (worked constant lines n before))
    (sym (step-more constant (step_at lines n) n before mid i low c.loop-index.invariant.so_far c.loop-index.invariant.own))
    (part-lighter constant lines (step_at lines n) before (terms_for n before) (i + 1)))
    c.in_err-work_demand.ensures.large)

pub loop-index-preserved : goal.loop-index-preserved
loop-index-preserved c =
    let constant = constant_tree c.args.constant in
    let lines = c.args.lines.now in
    let n = c.args.number in
    let i = c.loop-index.index in
    let before = listed c.args.self.now in
    let mid = listed c.loop-index.self in
    let long = row-length constant lines before _ _ _ n c.requires.listed c.requires.there in
    let low : i < length (terms_for n before) = omega (arith, c.loop-index-test.true, c.count-index-end.ensures, long) in
    record {
      is_listed = c.in_ok-work_demand.ensures.listed;
      so_far =
          c.in_ok-work_demand.ensures.demands
          ∙ step-more constant (step_at lines n) n before mid i low c.loop-index.invariant.so_far c.loop-index.invariant.own;
      own =
          ap (terms_for n) c.in_ok-work_demand.ensures.demands
          ∙ terms-demanded constant n (get_or (terms_for n mid) i []) (bound_parents (step_at lines n)) mid (c.requires.earlier n c.requires.there)
          ∙ c.loop-index.invariant.own;
    }

pub returns-clause-demands : goal.returns-clause-demands
returns-clause-demands c =
    let constant = constant_tree c.args.constant in
    let lines = c.args.lines.now in
    let n = c.args.number in
    let before = listed c.args.self.now in
    let long = row-length constant lines before _ _ _ n c.requires.listed c.requires.there in
    c.loop-index.invariant.so_far
    ∙ ap (λ ts. fold with_demand before (flat_map (demanded_by constant (step_at lines n)) ts))
    (take_all c.loop-index.index (terms_for n before) (omega (arith, c.loop-index-test.false, c.count-index-end.ensures, long)))
