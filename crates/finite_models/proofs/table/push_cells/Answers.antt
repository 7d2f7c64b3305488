use Rattle.std.proofs.Common.{arith, ◌∙◌}
use Rattle.sat_core.specs.Clause.{valuation_of}
use Rattle.finite_models.specs.Table.{cell_at}
use Rattle.finite_models.proofs.AboutLoops.TableLemmas.{names-fit, cell-is, cells-next}
use Rattle.finite_models.proofs.table.push_cells.Goals as goal

pub entry_value-value-requires-clause-fits : goal.entry_value-value-requires-clause-fits
entry_value-value-requires-clause-fits c =
    names-fit c.args.signature.now c.args.names.now c.args.number c.symbol-symbol.result.now c.first.result c.in_ok-rows.rows c.requires.names
    c.symbol-symbol.ensures (omega arith) c.first.ensures c.in_ok-rows.ensures

pub loop-place-preserved : goal.loop-place-preserved
loop-place-preserved c =
    cells-next (cell_at c.args.signature.now c.args.names.now (valuation_of c.args.truths.now) c.args.number) c.args.cells.now.items
    c.loop-place.cells.items _ _ c.loop-place.place c.loop-place.invariant c.in_ok-push.ensures.items
    (cell-is c.args.signature.now c.args.names.now (valuation_of c.args.truths.now) c.args.number c.loop-place.place c.symbol-symbol.result.now
    c.first.result c.in_ok-rows.rows c.from_vec.result c.entry_value-value.result c.symbol-symbol.ensures c.first.ensures c.in_ok-rows.ensures
    (c.from_vec.ensures ∙ c.in_ok-arguments.ensures) c.entry_value-value.ensures)
