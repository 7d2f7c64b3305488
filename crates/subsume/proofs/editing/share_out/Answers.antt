use Rattle.std.proofs.Common.{◌++◌, List, sym, subst, arith}
use Rattle.std.specs.Prelude.{All, IsPermutation}
use Rattle.std.proofs.lemmas.List.Elements.{All-push}
use Rattle.subsume.specs.declared.entry.Entry.{Entry}
use Rattle.subsume.specs.Editing.{HasAtMost, HasMore}
use Rattle.subsume.proofs.AboutTree.EditLemmas.{shared-low, shared-high}
use Rattle.subsume.proofs.editing.share_out.Goals as goal

pub loop-entry-preserved-then-value-cut : goal.loop-entry-preserved-then-value-cut
loop-entry-preserved-then-value-cut c =
    let e : Entry = c.in-Some.entry in
    let low : List Entry = c.loop-entry.low.items in
    let high : List Entry = c.loop-entry.high.items in
    let few : HasAtMost c.args.cut e = omega (arith, c.value.ensures, c.if-value-cut.true) in
    let room = c.loop-entry.invariant in (
      shared-low c.args.entries.items c.pop.new.self.items low high c.push_reserved.new.self.items e c.push_reserved.ensures.items
          (subst (λ xs. IsPermutation c.args.entries.items (xs ++ (low ++ high))) c.in-Some.ensures.items c.loop-entry.invariant.0),
      subst (All (HasAtMost c.args.cut)) (sym c.push_reserved.ensures.items) (All-push (HasAtMost c.args.cut) low e c.loop-entry.invariant.1 few),
      c.loop-entry.invariant.2,
      omega (arith, room.3, c.in-Some.ensures.len, c.push_reserved.ensures.len, c.push_reserved.ensures.capacity),
      omega (arith, room.4, c.in-Some.ensures.len),
    )

pub loop-entry-preserved : goal.loop-entry-preserved
loop-entry-preserved c =
    let e : Entry = c.in-Some.entry in
    let low : List Entry = c.loop-entry.low.items in
    let high : List Entry = c.loop-entry.high.items in
    let more : HasMore c.args.cut e = omega (arith, c.value.ensures, c.if-value-cut.false) in
    let room = c.loop-entry.invariant in (
      shared-high c.args.entries.items c.pop.new.self.items low high c.push_reserved-else-value-cut.new.self.items e
          c.push_reserved-else-value-cut.ensures.items
          (subst (λ xs. IsPermutation c.args.entries.items (xs ++ (low ++ high))) c.in-Some.ensures.items c.loop-entry.invariant.0),
      c.loop-entry.invariant.1,
      subst (All (HasMore c.args.cut)) (sym c.push_reserved-else-value-cut.ensures.items) (All-push (HasMore c.args.cut) high e c.loop-entry.invariant.2 more),
      omega (arith, room.3, c.in-Some.ensures.len),
      omega (arith, room.4, c.in-Some.ensures.len, c.push_reserved-else-value-cut.ensures.len, c.push_reserved-else-value-cut.ensures.capacity),
    )
