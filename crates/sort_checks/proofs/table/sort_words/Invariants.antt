use Rattle.std.proofs.Common.{drop}
use Rattle.sort_checks.specs.Lent.{bodies_of}
use Rattle.sort_checks.specs.Tables.{HasSorts}
use Rattle.sort_checks.proofs.table.sort_words.Given as goal

abbrev pub invariant-loop-index : goal.invariant-loop-index
invariant-loop-index l = HasSorts (drop l.index (bodies_of l.entries)) l.sorts
