use Rattle.std.proofs.Common.{◌≡◌, ◌++◌, map}
use Rattle.fol_base.specs.Canonical.{numbers_from}
use Rattle.sat_core.specs.Clause.{valuation_of}
use Rattle.finite_models.specs.Table.{cell_at}
use Rattle.finite_models.proofs.table.push_cells.Given as goal

abbrev pub invariant-loop-place : goal.invariant-loop-place
invariant-loop-place l =
    l.cells.items ≡ l.initial.cells.items ++ map (cell_at l.signature l.names (valuation_of l.truths) l.number) (numbers_from 0 l.place)
