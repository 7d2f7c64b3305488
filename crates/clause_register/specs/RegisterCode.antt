-- What contracts see of a register: the registered clauses, and how many more it takes without new memory.
use Rattle.std.specs.Prelude.{ℕ, List}
use Rattle.std.specs.Coded.{Coded, codes}
use Rattle.term_bank.specs.Reference.{reference_code}
use Rattle.clause_register.specs.declared.register.Registration.{Registration}

pub record Registrations : Type 0 where
  pub clauses : List Registration
  pub spare : ℕ

pub registrations_code : Coded Registrations
registrations_code = hlevel (codes, reference_code)
