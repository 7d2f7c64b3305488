-- Clause counts that stop at u64's last value.
use Rattle.std.specs.Prelude.{ℕ, ◌+◌}
use Rattle.plain_types.specs.Capped.{capped}
use Rattle.formula_nnf.specs.declared.clauses.Count.{Count}
use Rattle.formula_nnf.specs.ClauseCount.{ClauseCount}

-- the count that the program's `Count` stands for
abbrev pub count_of : Count → ClauseCount
count_of k = record { clauses = k.clauses; defining = k.defining }

-- a count of which each number stops at u64's last value
abbrev pub capped_count : ClauseCount → ClauseCount
capped_count c = record { clauses = capped c.clauses; defining = capped c.defining }

-- the formula's clauses, and those that define its names
abbrev pub total_count : ClauseCount → ℕ
total_count c = c.clauses + c.defining
