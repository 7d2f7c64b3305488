use Rattle.std.proofs.Common.{◌≡◌, ℕ, ◌+◌, ◌-◌, ◌<◌, ◌/◌, length, sym, ap, ◌∙◌, subst, arith, drop}
use Rattle.disc_tree.specs.declared.node.Branch.{Branch}
use Rattle.disc_tree.specs.Path.{comes_before}
use Rattle.disc_tree.specs.Rows.{AreNotBefore, IsBefore}
use Rattle.disc_tree.specs.Children.{child_of, children_of}
use Rattle.disc_tree.proofs.AboutPaths.SlotLemmas.{front-before, back-not-before, at-slot, gap-before, gap-at-end, child-get, children-length}
use Rattle.disc_tree.proofs.node.slot.Goals as goal
use Rattle.disc_tree.proofs.node.slot.Goals.{else-low-branches-via-then-low-branches+else-not-comes_before, else-low-branches-via-else-low-branches}

pub loop-low-preserved-then-comes_before : goal.loop-low-preserved-then-comes_before
loop-low-preserved-then-comes_before c =
    let middle : ℕ = c.loop-low.low + (c.loop-low.high - c.loop-low.low) / 2 in
    let below : middle < c.loop-low.high = omega (arith, c.loop-low-test.true) in
    let in_range : middle < length c.args.branches.now = omega (arith, below, c.loop-low.invariant.high) in
    record {
      low = omega (arith, below);
      high = c.loop-low.invariant.high;
      smaller =
          front-before c.args.label (children_of c.args.branches.now) middle (child_of c.index-branches-middle.result) c.requires
          (omega (arith, in_range, children-length c.args.branches.now))
          (child-get c.args.branches.now middle c.index-branches-middle.result in_range c.index-branches-middle.is)
          (ap (λ (b : Branch). comes_before b.label c.args.label) c.index-branches-middle.is ∙ sym c.comes_before.ensures ∙ c.if-comes_before.true);
      others = c.loop-low.invariant.others;
    }

pub loop-low-preserved : goal.loop-low-preserved
loop-low-preserved c =
    let middle : ℕ = c.loop-low.low + (c.loop-low.high - c.loop-low.low) / 2 in
    let below : middle < c.loop-low.high = omega (arith, c.loop-low-test.true) in
    let in_range : middle < length c.args.branches.now = omega (arith, below, c.loop-low.invariant.high) in
    record {
      low = omega arith;
      high = omega (arith, in_range);
      smaller = c.loop-low.invariant.smaller;
      others =
          back-not-before c.args.label (children_of c.args.branches.now) middle (child_of c.index-branches-middle.result) c.requires
          (omega (arith, in_range, children-length c.args.branches.now))
          (child-get c.args.branches.now middle c.index-branches-middle.result in_range c.index-branches-middle.is)
          (ap (λ (b : Branch). comes_before b.label c.args.label) c.index-branches-middle.is ∙ sym c.comes_before.ensures ∙ c.if-comes_before.false);
    }

pub returns-then-not-comes_before-clause-found : goal.returns-then-not-comes_before-clause-found
returns-then-not-comes_before-clause-found c =
    let same : c.loop-low.high ≡ c.loop-low.low = omega (arith, c.loop-low.invariant.low, c.loop-low-test.false) in
    let rest : AreNotBefore (drop c.loop-low.low (children_of c.args.branches.now)) c.args.label =
    subst (λ k. AreNotBefore (drop k (children_of c.args.branches.now)) c.args.label) same c.loop-low.invariant.others in
    at-slot c.args.label (children_of c.args.branches.now) c.loop-low.low (child_of c.index-branches-low.result)
    (omega (arith, c.if-low-branches.true, children-length c.args.branches.now))
    (child-get c.args.branches.now c.loop-low.low c.index-branches-low.result c.if-low-branches.true c.index-branches-low.is) rest
    (ap (λ (b : Branch). comes_before c.args.label b.label) c.index-branches-low.is ∙ sym c.comes_before-then-low-branches.ensures ∙ c.if-not-comes_before.true)

pub returns-else-low-branches-clause-absent : goal.returns-else-low-branches-clause-absent
returns-else-low-branches-clause-absent c =
    let greater : IsBefore c.args.label (drop c.loop-low.low (children_of c.args.branches.now)) =
    elim c.else-low-branches.branch [
      | else-low-branches-via-then-low-branches+else-not-comes_before w ↦
          gap-before c.args.label (children_of c.args.branches.now) c.loop-low.low (child_of w.index-branches-low.result) c.requires
          (omega (arith, w.if-low-branches.true, children-length c.args.branches.now))
          (child-get c.args.branches.now c.loop-low.low w.index-branches-low.result w.if-low-branches.true w.index-branches-low.is)
          (ap (λ (b : Branch). comes_before c.args.label b.label) w.index-branches-low.is ∙ sym w.comes_before-then-low-branches.ensures ∙ w.if-not-comes_before.false)
      | else-low-branches-via-else-low-branches w ↦
          gap-at-end c.args.label (children_of c.args.branches.now) c.loop-low.low
          (omega (arith, w.if-low-branches.false, children-length c.args.branches.now))
    ] in
    record {
      in_range = omega (arith, c.loop-low.invariant.low, c.loop-low.invariant.high, children-length c.args.branches.now);
      smaller = c.loop-low.invariant.smaller;
      greater = greater;
    }
