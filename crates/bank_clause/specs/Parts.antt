-- What contracts see of a bank clause, and what is right of it without its bank.
use Rattle.std.specs.Prelude.{◌≡◌, ◌<◌, ◌≤◌, ℕ, List, map}
use Rattle.std.specs.Coded.{Coded, codes}
use Rattle.std.specs.List.Sorted.{IsStrictlyIncreasing}
use Rattle.plain_types.specs.Names.{negative_of}
use Rattle.fol_base.specs.Clause.{TreeClause, clause_size, clause_variables}
use Rattle.fol_base.specs.Canonical.{IsCanonical, bound_of}
use Rattle.fol_base.specs.declared.limits.TheConstants.{SIZE_LIMIT}
use Rattle.term_bank.specs.Reference.{reference_code}
use Rattle.term_bank.specs.Literal.{literals_at}
use Rattle.term_bank.specs.declared.literal.BankLit.{BankLit}

-- the literals, and the numbers of the asserted names
pub record ClauseParts : Type 0 where
  pub literals : List BankLit
  pub names : List ℕ

pub clause_parts_code : Coded ClauseParts
clause_parts_code = hlevel (codes, reference_code)

-- the clause for which literals of a bank and asserted names stand: these are negative in it
abbrev pub clause_over : List BankLit → List ℕ → TreeClause
clause_over literals names = record { literals = literals_at literals; names = map negative_of names }

-- A clause of these literals and names is canonical, has this size and so many variables, and its names rise.
pub record IsClauseOver (literals : List BankLit) (names : List ℕ) (symbols count : ℕ) : Type 0 where
  pub rise : IsStrictlyIncreasing names
  pub canonical : IsCanonical (clause_over literals names)
  pub size : symbols ≡ clause_size (clause_over literals names)
  pub limit : symbols < SIZE_LIMIT
  pub variables : count ≡ bound_of (clause_variables (clause_over literals names))
  pub few : count ≤ symbols
