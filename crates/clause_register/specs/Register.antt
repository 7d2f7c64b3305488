-- What a register is asked, and what becomes of its clauses.
use Rattle.std.specs.Prelude.{ℕ, Bool, true, ◌&&◌, nat_lt, is_none, List, length, Option, Some, option_and_then, slice_get}
use Rattle.bank_clause.specs.Clause.{equal_by_numbers}
use Rattle.bank_clause.specs.declared.clause.BankClause.{BankClause}
use Rattle.clause_register.specs.declared.register.Registration.{Registration}

-- the registered clause lives, and is equal by the numbers of its terms
abbrev pub is_living_copy : BankClause → Registration → Bool
is_living_copy c s = is_none s.death && equal_by_numbers c s.clause

-- the place of the event in which the clause of a number died
abbrev pub death_at : List Registration → ℕ → Option ℕ
death_at ss n = option_and_then (λ (s : Registration). s.death) (slice_get ss n)

abbrev pub is_living_at : List Registration → ℕ → Bool
is_living_at ss n = nat_lt n (length ss) && is_none (death_at ss n)

-- the registration of a clause that was activated
abbrev pub at_position : ℕ → Registration → Registration
at_position position s = record s { position = Some position }

-- of one that died in the event of that place
abbrev pub dead_in : ℕ → Registration → Registration
dead_in event s = record s { death = Some event }

-- of one whose job is done
abbrev pub made_active : Registration → Registration
made_active s = record s { is_active = true }
