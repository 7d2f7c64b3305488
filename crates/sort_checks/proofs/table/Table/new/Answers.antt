use Rattle.sort_checks.proofs.table.Table.new.Goals as goal

pub invariant_of-result : goal.invariant_of-result
invariant_of-result c = record { first = c.in_ok-first.ensures; sorts = c.in_ok-sorts.ensures }
