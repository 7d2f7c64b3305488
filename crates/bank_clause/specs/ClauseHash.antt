-- How a clause is hashed: the signs and the numbers of the sides of its literals, from left to right, and then the names that it asserts.
use Rattle.std.specs.Prelude.{◌≡◌, ℕ, true, fold, if◌then◌else◌, List}
use Rattle.term_bank.specs.Bank.{number}
use Rattle.term_bank.specs.Hash.{mixed}
use Rattle.term_bank.specs.declared.literal.BankLit.{BankLit}
use Rattle.bank_clause.specs.Clause.{equal_by_numbers}
use Rattle.bank_clause.specs.declared.clause.BankClause.{BankClause}

abbrev pub literal_hash : ℕ → BankLit → ℕ
literal_hash hash l = mixed (mixed (mixed hash (if l.positive then 1 else 0)) (number l.left)) (number l.right)

abbrev pub literals_hash : List BankLit → ℕ
literals_hash ls = fold literal_hash 0 ls

-- a hash after names
abbrev pub names_hash : ℕ → List ℕ → ℕ
names_hash hash names = fold mixed hash names

abbrev pub clause_hash : BankClause → ℕ
clause_hash c = names_hash (literals_hash c.literals) c.names

-- clauses that are equal by numbers have one hash
abbrev pub EqualClausesHashAlike : Type 0
EqualClausesHashAlike = (c d : BankClause) → equal_by_numbers c d ≡ true → clause_hash c ≡ clause_hash d
