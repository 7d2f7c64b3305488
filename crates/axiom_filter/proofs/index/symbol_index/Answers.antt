use Rattle.std.proofs.Common.{◌≡◌, ◌+◌, ℕ, List, length, take, ap, sym, ◌∙◌, subst, arith}
use Rattle.std.proofs.lemmas.List.{with_items_is}
use Rattle.axiom_filter.specs.Tables.{AreBelow, row_of, ends_with_number}
use Rattle.axiom_filter.proofs.AboutTables.IndexLemmas.{IsIndex, index-none, index-entered, index-before, index-done, row-below}
use Rattle.axiom_filter.proofs.index.symbol_index.Goals as goal

pub loop-place-init : goal.loop-place-init
loop-place-init c = index-none c.args.symbols c.in_ok-index.index.items c.in_ok-index.ensures.count c.in_ok-index.ensures.empty

pub enter-requires-clause-row : goal.enter-requires-clause-row
enter-requires-clause-row c =
    let low : AreBelow c.args.symbols c.as_slice.result.now =
    row-below c.args.symbols c.args.rows.now c.loop-place.place c.index-rows-place.result c.as_slice.result.now
    c.requires c.loop-place-test.true c.index-rows-place.is c.as_slice.ensures in
    λ k d h. omega (arith, low k d h, ap length c.as_mut_slice.ensures.value, c.loop-place.invariant.count)

pub enter-requires-clause-new : goal.enter-requires-clause-new
enter-requires-clause-new c = λ n.
    ap (λ (ts : List (List ℕ)). ends_with_number (row_of ts n) c.loop-place.place) c.as_mut_slice.ensures.value
    ∙ index-before c.args.symbols c.loop-place.place c.args.rows.now c.loop-place.index.items c.loop-place-test.true c.loop-place.invariant n

pub loop-place-preserved : goal.loop-place-preserved
loop-place-preserved c =
    let same : length c.enter.new.index ≡ c.loop-place.index.len = omega (arith, c.enter.auto.index, c.as_mut_slice.ensures.len) in
    subst (IsIndex c.args.symbols (take (c.loop-place.place + 1) c.args.rows.now)) (sym (with_items_is c.loop-place.index c.enter.new.index same))
    (index-entered c.args.symbols c.loop-place.place c.args.rows.now c.index-rows-place.result c.as_slice.result.now
    c.loop-place.index.items c.as_mut_slice.result.now c.enter.new.index
    c.loop-place-test.true c.index-rows-place.is c.as_slice.ensures c.as_mut_slice.ensures.value c.enter.auto.index c.in_ok-enter.ensures c.loop-place.invariant)

pub returns-clause-symbols : goal.returns-clause-symbols
returns-clause-symbols c = (index-done c.args.symbols _ c.args.rows.now _ c.loop-place-test.false c.loop-place.invariant).count

pub returns-clause-lists : goal.returns-clause-lists
returns-clause-lists c = (index-done c.args.symbols _ c.args.rows.now _ c.loop-place-test.false c.loop-place.invariant).lists
