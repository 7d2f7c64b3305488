use Rattle.std.proofs.Common.{◌≡◌, length, ap, arith}
use Rattle.std.proofs.lemmas.List.{with_items_is}
use Rattle.axiom_filter.proofs.AboutTables.WalkLemmas.{walked-more}
use Rattle.axiom_filter.proofs.walk.walk.Goals as goal

pub loop-level-preserved : goal.loop-level-preserved
loop-level-preserved c =
    let taken_size : length c.spread-in-loop-level.new.marks ≡ c.loop-level.taken.len =
    omega (arith, c.spread-in-loop-level.auto.marks, c.as_mut_slice-in-loop-level.ensures.len) in
    let reached_size : length c.spread-in-loop-level-2.new.marks ≡ c.loop-level.reached.len =
    omega (arith, c.spread-in-loop-level-2.auto.marks, c.as_mut_slice-in-loop-level-2.ensures.len) in
    let taken_is = with_items_is c.loop-level.taken c.spread-in-loop-level.new.marks taken_size in
    let reached_is = with_items_is c.loop-level.reached c.spread-in-loop-level-2.new.marks reached_size in
    record {
      walked =
          walked-more c.args.rows.now c.args.triggers.now c.args.goals.now c.loop-level._level c.loop-level.reached.items c.loop-level.taken.items
          c.as_mut_slice-in-loop-level-2.result.now c.as_mut_slice-in-loop-level.result.now
          c.spread-in-loop-level-2.new.marks c.spread-in-loop-level.new.marks
          c.loop-level.frontier.items c.in_ok-found.found.items c.in_ok-frontier-2.frontier.items c.as_slice.result.now
          c.as_slice-in-loop-level.result.now
          c.as_mut_slice-in-loop-level.ensures.value c.as_slice.ensures.value c.as_mut_slice-in-loop-level-2.ensures.value
          c.as_slice-in-loop-level.ensures.value c.loop-level.invariant.walked
          c.in_ok-found.ensures.marked c.in_ok-found.ensures.found c.in_ok-frontier-2.ensures.marked c.in_ok-frontier-2.ensures.found
          _ _ reached_is taken_is;
      reached =
          omega (arith, ap length reached_is, c.spread-in-loop-level-2.auto.marks, ap length c.as_mut_slice-in-loop-level-2.ensures.value, c.loop-level.invariant.reached);
      taken =
          omega (arith, ap length taken_is, c.spread-in-loop-level.auto.marks, ap length c.as_mut_slice-in-loop-level.ensures.value, c.loop-level.invariant.taken);
      frontier = λ k d h.
          omega (arith, c.in_ok-frontier-2.ensures.bound k d h, ap length c.as_mut_slice-in-loop-level-2.ensures.value, c.loop-level.invariant.reached);
    }
