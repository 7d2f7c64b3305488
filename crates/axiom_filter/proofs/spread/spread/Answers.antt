use Rattle.std.proofs.Common.{◌<◌, [], length, get_or, sym, subst, arith}
use Rattle.axiom_filter.specs.Tables.{AreBelow}
use Rattle.axiom_filter.proofs.AboutTables.SpreadLemmas.{Spread, spread-none, table-more, table-done}
use Rattle.axiom_filter.proofs.AboutTables.IndexLemmas.{row-below}
use Rattle.axiom_filter.proofs.spread.spread.Goals as goal

pub loop-number-init : goal.loop-number-init
loop-number-init c = record {
  spread = subst (λ ns. Spread [] c.args.marks.now [] c.args.marks.now ns) (sym c.new-found.ensures.items) (spread-none c.args.marks.now []);
  below = subst (AreBelow (length c.args.marks.now)) (sym c.new-found.ensures.items) (λ k d h. absurd (omega arith));
}

pub bounds-table-number : goal.bounds-table-number
bounds-table-number c = omega (arith, c.requires.from c.loop-number.number-index 0 c.loop-number-test.true)

pub offset_bounds-table-number : goal.offset_bounds-table-number
offset_bounds-table-number c = record { fits = omega (arith, c.requires.from c.loop-number.number-index 0 c.loop-number-test.true, c.well_formed) }

pub spread_row-requires-clause-row : goal.spread_row-requires-clause-row
spread_row-requires-clause-row c =
    let inside : get_or c.args.from.now c.loop-number.number-index 0 < length c.args.table.now = omega (arith, c.requires.from c.loop-number.number-index 0 c.loop-number-test.true) in
    let low : AreBelow (length c.args.marks.now) c.as_slice.result.now = row-below _ c.args.table.now _ c.index-table-number.result c.as_slice.result.now c.requires.rows inside c.index-table-number.is c.as_slice.ensures in
    λ k d h. omega (arith, low k d h)

pub spread_row-requires-clause-found : goal.spread_row-requires-clause-found
spread_row-requires-clause-found c = c.loop-number.invariant.below

pub loop-number-preserved : goal.loop-number-preserved
loop-number-preserved c =
    let inside : get_or c.args.from.now c.loop-number.number-index 0 < length c.args.table.now = omega (arith, c.requires.from c.loop-number.number-index 0 c.loop-number-test.true) in
    record {
      spread =
          table-more c.args.table.now c.args.from.now c.loop-number.number-index c.index-table-number.result c.as_slice.result.now _ _ _ _ _ _
          c.loop-number-test.true inside c.index-table-number.is c.as_slice.ensures
          c.in_ok-spread_row.ensures.marked c.in_ok-spread_row.ensures.found c.loop-number.invariant.spread;
      below = λ k d h. omega (arith, c.in_ok-spread_row.ensures.bound k d h);
    }

pub returns-clause-marked : goal.returns-clause-marked
returns-clause-marked c = (table-done _ _ _ _ _ _ _ c.loop-number-test.false c.loop-number.invariant.spread).marked

pub returns-clause-found : goal.returns-clause-found
returns-clause-found c = (table-done _ _ _ _ _ _ _ c.loop-number-test.false c.loop-number.invariant.spread).listed

pub returns-clause-bound : goal.returns-clause-bound
returns-clause-bound c = λ k d h. omega (arith, c.loop-number.invariant.below k d h)
