use Rattle.std.proofs.Common.{◌<◌, ◌∙◌, length, get_or, arith}
use Rattle.std.proofs.lemmas.List.{set-get_or}
use Rattle.axiom_filter.proofs.AboutTables.IndexLemmas.{entered-none, enter-pushed, enter-kept, enter-done}
use Rattle.axiom_filter.proofs.index.enter.Goals as goal
use Rattle.axiom_filter.proofs.index.enter.Goals.{then-not-ends_with+in_ok-push, else-not-ends_with}

pub loop-symbol-init : goal.loop-symbol-init
loop-symbol-init c = entered-none c.args.place c.args.index.now

pub bounds-index-symbol : goal.bounds-index-symbol
bounds-index-symbol c = omega (arith, c.requires.row c.loop-symbol.symbol-index 0 c.loop-symbol-test.true)

pub offset_bounds-index-symbol : goal.offset_bounds-index-symbol
offset_bounds-index-symbol c = record { fits = omega (arith, c.requires.row c.loop-symbol.symbol-index 0 c.loop-symbol-test.true, c.well_formed) }

pub loop-symbol-preserved : goal.loop-symbol-preserved
loop-symbol-preserved c =
    let inside : get_or c.args.row.now c.loop-symbol.symbol-index 0 < length c.args.index.now =
    omega (arith, c.requires.row c.loop-symbol.symbol-index 0 c.loop-symbol-test.true) in
    elim c.if-not-ends_with.branch [
      | then-not-ends_with+in_ok-push w ↦
          enter-pushed c.args.place c.loop-symbol.symbol-index c.args.row.now c.args.index.now c.loop-symbol.index c.if-not-ends_with.index
          c.index-index-symbol.result c.as_slice.result.now w.push.new.self c.ends_with.result
          c.loop-symbol-test.true inside c.as_slice.ensures c.ends_with.ensures w.if-not-ends_with.true
          w.in_ok-push.ensures.ok w.index-is c.loop-symbol.invariant
      | else-not-ends_with w ↦
          enter-kept c.args.place c.loop-symbol.symbol-index c.args.row.now c.args.index.now c.loop-symbol.index c.if-not-ends_with.index
          c.index-index-symbol.result c.as_slice.result.now c.ends_with.result c.requires.new
          c.loop-symbol-test.true inside c.as_slice.ensures c.ends_with.ensures w.if-not-ends_with.false
          (w.index-is ∙ set-get_or c.loop-symbol.index (get_or c.args.row.now c.loop-symbol.symbol-index 0) c.index-index-symbol.result) c.loop-symbol.invariant
    ]

pub returns : goal.returns
returns c = (enter-done c.args.place _ _ _ _ c.loop-symbol-test.false c.loop-symbol.invariant).lists
