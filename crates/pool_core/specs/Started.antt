-- Registrations and the clauses that they stand for, and an input that comes. Only private functions cite this.
use Rattle.std.specs.Prelude.{ℕ, Bool, [], ◌∷◌, All}
use Rattle.fol_base.specs.Clause.{TreeClause}
use Rattle.kernel_steps.specs.FromTrees.{line_of}
use Rattle.kernel_steps.specs.declared.step.Step.TheVariants.{Clausify}
use Rattle.term_bank.specs.Literal.{AreLiteralsOf}
use Rattle.term_bank.specs.declared.bank.Bank.{Bank}
use Rattle.term_bank.specs.declared.table.Table.{Table}
use Rattle.bank_clause.specs.Clause.{clause_at, IsKnown}
use Rattle.pool_history.specs.Record.{PoolRecord, Registered}
use Rattle.pool_history.specs.Registering.{comes, unless_ended}
use Rattle.clause_register.specs.declared.register.Registration.{Registration}

-- the registered clause that a registration keeps
abbrev pub registered_at : Registration → Registered
registered_at s = record { clause = clause_at s.clause; line = s.line }

-- its terms are of the bank, and the table has their references
pub record IsOfTable (bank : Bank) (table : Table) (s : Registration) : Type 0 where
  pub of_bank : AreLiteralsOf bank s.clause.literals
  pub known : All (IsKnown table) s.clause.literals

-- an input comes by the line of its number
abbrev pub with_input : Bool → ℕ → TreeClause → PoolRecord → PoolRecord
with_input split i c r = unless_ended (comes split (line_of (Clausify i) c ∷ []) c) r
