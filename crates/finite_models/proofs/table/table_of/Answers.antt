use Rattle.sat_core.specs.Clause.{valuation_of}
use Rattle.finite_models.specs.Table.{symbol_cells}
use Rattle.finite_models.proofs.AboutLoops.TableLemmas.{symbol-cells-next}
use Rattle.finite_models.proofs.table.table_of.Goals as goal

pub loop-number-preserved : goal.loop-number-preserved
loop-number-preserved c =
    symbol-cells-next (symbol_cells c.args.signature.now c.args.names.now (valuation_of c.args.truths.now)) c.loop-number.cells.items
    c.push_cells.new.cells.items c.loop-number.number c.loop-number.auto.number c.loop-number.invariant c.in_ok-push_cells.ensures
