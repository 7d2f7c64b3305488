use Rattle.std.proofs.Common.{drop}
use Rattle.sort_checks.specs.Lent.{bodies_of}
use Rattle.sort_checks.specs.Tables.{HasFirst}
use Rattle.sort_checks.proofs.table.first_entries.Given as goal

abbrev pub invariant-loop-index : goal.invariant-loop-index
invariant-loop-index l = HasFirst l.index (drop l.index (bodies_of l.entries)) l.first
