-- What contracts see of propositional clauses with room.
use Rattle.std.specs.Prelude.{ℕ, List}
use Rattle.sat_core.specs.Clause.{PropClause}

-- the clauses, how many more of them it takes without memory, and how many literals in these
pub record ClauseBuffer : Type 0 where
  pub lists : List PropClause
  pub spare_lists : ℕ
  pub spare_items : ℕ
