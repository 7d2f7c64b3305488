use Rattle.std.proofs.Common.{◌<◌, ◌+◌, min, length, drop, get_or, ap, sym, ◌∙◌, arith}
use Rattle.axiom_filter.specs.Tables.{least_length}
use Rattle.axiom_filter.proofs.AboutTables.TriggerLemmas.{least-begins, least-more, least-ends}
use Rattle.axiom_filter.proofs.triggers.rarest_count.Goals as goal

pub loop-symbol-init : goal.loop-symbol-init
loop-symbol-init c = record { most = omega arith; least = least-begins c.args.index.now c.args.row.now }

pub bounds-index-symbol : goal.bounds-index-symbol
bounds-index-symbol c = omega (arith, c.requires c.loop-symbol.symbol-index 0 c.loop-symbol-test.true)

pub offset_bounds-index-symbol : goal.offset_bounds-index-symbol
offset_bounds-index-symbol c = record { fits = omega (arith, c.requires c.loop-symbol.symbol-index 0 c.loop-symbol-test.true, c.well_formed) }

pub loop-symbol-preserved : goal.loop-symbol-preserved
loop-symbol-preserved c =
    let inside : get_or c.args.row.now c.loop-symbol.symbol-index 0 < length c.args.index.now = omega (arith, c.requires c.loop-symbol.symbol-index 0 c.loop-symbol-test.true) in
    record {
      most = omega (arith, c.min-least.ensures, c.loop-symbol.invariant.most);
      least =
          ap (λ m. min m (least_length c.args.index.now (drop (c.loop-symbol.symbol-index + 1) c.args.row.now))) c.min-least.ensures
          ∙ least-more c.args.index.now c.args.row.now c.loop-symbol.symbol-index c.loop-symbol.least _ c.index-index-symbol.result
          c.loop-symbol-test.true inside c.index-index-symbol.is c.len.ensures
          ∙ c.loop-symbol.invariant.least;
    }

pub returns : goal.returns
returns c =
    sym (least-ends c.args.index.now c.args.row.now c.loop-symbol.symbol-index c.loop-symbol.least c.loop-symbol-test.false c.loop-symbol.invariant.most)
    ∙ c.loop-symbol.invariant.least
