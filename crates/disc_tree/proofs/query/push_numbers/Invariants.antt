use Rattle.std.proofs.Common.{◌≡◌, ◌++◌, take}
use Rattle.disc_tree.specs.Rows.{numbers_of}
use Rattle.disc_tree.proofs.query.push_numbers.Given as goal

abbrev pub invariant-loop-entry : goal.invariant-loop-entry
invariant-loop-entry l = l.found.items ≡ l.initial.found.items ++ numbers_of (take l.entry-index l.entries)
