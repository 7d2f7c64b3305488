use Rattle.std.proofs.Common.{◌≡◌, ◌≤◌, ◌-◌, [], ◌∷◌, length, refl, ap, sym, subst, arith, ◌∙◌}
use Rattle.list_lemmas.proofs.Results.{err-passed}
use Rattle.herbrand_list.specs.Demands.{all_worked, worked, last_line}
use Rattle.herbrand_list.specs.Worked.{constant_tree, listed, weight_of}
use Rattle.herbrand_list.proofs.AboutListing.WorkedLemmas.{worked-one, worked-lighter, weight-all-worked}
use Rattle.herbrand_list.proofs.AboutListing.FaultLemmas.{says-more}
use Rattle.herbrand_list.proofs.demands.DemandList.of_lines.Goals as goal

pub returns-in_err-list-clause-large : goal.returns-in_err-list-clause-large
returns-in_err-list-clause-large c =
    err-passed _ _ _ c.from_residual.ensures.1
    (says-more _ _ _
    (weight-all-worked (constant_tree c.args.constant) c.args.lines.now (length c.args.lines.now) (last_line c.args.lines.now ∷ []))
    c.in_err-list.ensures.large)

pub loop-number-init : goal.loop-number-init
loop-number-init c = record {
  is_listed = c.in_ok-list.ensures.listed;
  rest = ap (all_worked (constant_tree c.args.constant) c.args.lines.now (length c.args.lines.now)) c.in_ok-list.ensures.demands;
}

pub returns-in_err-work-clause-large : goal.returns-in_err-work-clause-large
returns-in_err-work-clause-large c =
    let constant = constant_tree c.args.constant in
    let lines = c.args.lines.now in
    err-passed _ _ _ c.from_residual-in_err-work.ensures.1
    (says-more _ _ _
    (subst (λ ds. weight_of constant lines (worked constant lines (c.loop-number.number - 1) (listed c.loop-number.list)) ≤ weight_of constant lines ds)
    c.loop-number.invariant.rest
    (worked-lighter constant lines (listed c.loop-number.list) (c.loop-number.number - 1) c.loop-number.number (omega (arith, c.loop-number-test.true)) refl))
    c.in_err-work.ensures.large)

pub loop-number-preserved : goal.loop-number-preserved
loop-number-preserved c =
    let constant = constant_tree c.args.constant in
    let lines = c.args.lines.now in
    record {
      is_listed = c.in_ok-work.ensures.listed;
      rest =
          ap (all_worked constant lines (c.loop-number.number - 1)) c.in_ok-work.ensures.demands
          ∙ worked-one constant lines (listed c.loop-number.list) (c.loop-number.number - 1) c.loop-number.number
          (omega (arith, c.loop-number-test.true)) refl
          ∙ c.loop-number.invariant.rest;
    }

pub returns-clause-demands : goal.returns-clause-demands
returns-clause-demands c =
    let done : c.loop-number.number ≡ 0 = omega (arith, c.loop-number-test.false) in
    ap (λ n. all_worked (constant_tree c.args.constant) c.args.lines.now n (listed c.loop-number.list)) (sym done) ∙ c.loop-number.invariant.rest
