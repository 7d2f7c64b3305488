use Rattle.std.proofs.Common.{◌≡◌, ◌++◌, drop}
use Rattle.std.specs.Prelude.{flat_map}
use Rattle.model_writer.specs.TableText.{cell_text, shown_cells}
use Rattle.model_writer.proofs.table.push_cells.Given as goal

abbrev pub invariant-loop-cell : goal.invariant-loop-cell
invariant-loop-cell l =
    l.page ++ flat_map (cell_text l.symbols) (shown_cells l.symbols (drop l.cell-index l.cells))
    ≡ l.initial.page ++ flat_map (cell_text l.symbols) (shown_cells l.symbols l.cells)
