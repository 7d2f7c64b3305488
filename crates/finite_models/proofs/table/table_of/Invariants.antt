use Rattle.std.proofs.Common.{◌≡◌, ◌-◌, flat_map}
use Rattle.fol_base.specs.Canonical.{numbers_from}
use Rattle.sat_core.specs.Clause.{valuation_of}
use Rattle.finite_models.specs.Table.{symbol_cells}
use Rattle.finite_models.proofs.table.table_of.Given as goal

abbrev pub invariant-loop-number : goal.invariant-loop-number
invariant-loop-number l =
    l.cells.items ≡ flat_map (symbol_cells l.signature l.names (valuation_of l.truths)) (numbers_from 1 (l.number - 1))
