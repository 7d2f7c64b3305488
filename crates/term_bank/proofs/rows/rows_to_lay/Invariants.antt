use Rattle.std.proofs.Common.{◌≤◌}
use Rattle.std.specs.Prelude.{vec_capacity}
use Rattle.term_bank.specs.Rows.{AreNumbered}
use Rattle.term_bank.specs.declared.rows.TheConstants.{ROWS}
use Rattle.term_bank.proofs.rows.rows_to_lay.Given as goal

abbrev pub invariant-loop-row : goal.invariant-loop-row
invariant-loop-row l = (ROWS ≤ vec_capacity l.rows) × AreNumbered l.row-counter l.rows.items
