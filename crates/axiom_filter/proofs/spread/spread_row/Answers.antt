use Rattle.std.proofs.Common.{Global, ℕ, ◌<◌, length, get_or, ap, ◌∙◌, arith}
use Rattle.std.specs.declared.vec.Vec.{Vec}
use Rattle.axiom_filter.proofs.AboutTables.SpreadLemmas.{spread-none, row-new, row-marked, row-done, below-push, below-same}
use Rattle.axiom_filter.proofs.spread.spread_row.Goals as goal
use Rattle.axiom_filter.proofs.spread.spread_row.Goals.{then-not-marks-place+in_ok-push, else-not-marks-place}

pub loop-number-init : goal.loop-number-init
loop-number-init c = record { spread = spread-none c.args.marks.now c.args.found.now.items; below = c.requires.found }

pub bounds-marks-place : goal.bounds-marks-place
bounds-marks-place c = omega (arith, c.requires.row c.loop-number.number-index 0 c.loop-number-test.true)

pub bounds-marks-place-then-not-marks-place : goal.bounds-marks-place-then-not-marks-place
bounds-marks-place-then-not-marks-place c = omega (arith, c.requires.row c.loop-number.number-index 0 c.loop-number-test.true)

pub loop-number-preserved : goal.loop-number-preserved
loop-number-preserved c =
    let inside : get_or c.args.row.now c.loop-number.number-index 0 < length c.loop-number.marks =
    omega (arith, c.requires.row c.loop-number.number-index 0 c.loop-number-test.true) in
    elim c.if-not-marks-place.branch [
      | then-not-marks-place+in_ok-push w ↦ record {
        spread =
            row-new c.args.row.now c.loop-number.number-index c.args.marks.now c.args.found.now.items _ _ _ _
            c.loop-number-test.true inside w.if-not-marks-place.true w.marks-is (ap (λ (v : Vec ℕ Global). v.items) w.found-is ∙ w.in_ok-push.ensures.items) c.loop-number.invariant.spread;
        below =
            below-push c.loop-number.marks _ c.loop-number.found.items _ (get_or c.args.row.now c.loop-number.number-index 0)
            inside w.marks-is (ap (λ (v : Vec ℕ Global). v.items) w.found-is ∙ w.in_ok-push.ensures.items) c.loop-number.invariant.below;
      }
      | else-not-marks-place w ↦ record {
        spread =
            row-marked c.args.row.now c.loop-number.number-index c.args.marks.now c.args.found.now.items _ _ _ _
            c.loop-number-test.true w.if-not-marks-place.false w.marks-is (ap (λ (v : Vec ℕ Global). v.items) w.found-is) c.loop-number.invariant.spread;
        below = below-same c.loop-number.marks _ c.loop-number.found.items _ w.marks-is (ap (λ (v : Vec ℕ Global). v.items) w.found-is) c.loop-number.invariant.below;
      }
    ]

pub returns-clause-marked : goal.returns-clause-marked
returns-clause-marked c = (row-done _ _ _ _ _ _ c.loop-number-test.false c.loop-number.invariant.spread).marked

pub returns-clause-found : goal.returns-clause-found
returns-clause-found c = (row-done _ _ _ _ _ _ c.loop-number-test.false c.loop-number.invariant.spread).listed

pub returns-clause-bound : goal.returns-clause-bound
returns-clause-bound c = λ k d h. omega (arith, c.loop-number.invariant.below k d h)
