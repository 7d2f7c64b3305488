-- Laws of clauses in banks.
use Rattle.std.specs.Prelude.{◌≡◌, ◌↔◌, ℕ, true, List, map}
use Rattle.std.specs.List.{All}
use Rattle.std.specs.List.Sorted.{IsStrictlyIncreasing}
use Rattle.plain_types.specs.Names.{negative_of}
use Rattle.fol_base.specs.Tree.{Tree}
use Rattle.term_bank.specs.Interning.{InternsAll, InternsFirst}
use Rattle.term_bank.specs.declared.literal.BankLit.{BankLit}
use Rattle.term_bank.specs.declared.table.Table.{Table}
use Rattle.term_bank.specs.Literal.{AreLiteralsOf}
use Rattle.term_bank.specs.declared.bank.Bank.{Bank}
use Rattle.bank_clause.specs.Clause.{AreAssertions, AreMembersOf, IsKnown, clause_at, equal_by_numbers}
use Rattle.bank_clause.specs.declared.clause.BankClause.{BankClause}
use Rattle.bank_clause.specs.declared.member.Member.{Member}

-- literals whose references a table has keep them when further trees are interned through it
abbrev pub KeepsKnownLiterals : Type 0
KeepsKnownLiterals =
    (trees : List Tree) (known learned : Table) (ls : List BankLit)
    → InternsAll trees known learned → All (IsKnown known) ls → All (IsKnown learned) ls

-- and where only some first ones of the trees were interned, as where memory ran out on the way
abbrev pub KeepsLiteralsOnTheWay : Type 0
KeepsLiteralsOnTheWay =
    (trees : List Tree) (known learned : Table) (ls : List BankLit)
    → InternsFirst trees known learned → All (IsKnown known) ls → All (IsKnown learned) ls

-- rising numbers are assertions with the negative sign
abbrev pub RisingNamesAreAssertions : Type 0
RisingNamesAreAssertions = (ns : List ℕ) → IsStrictlyIncreasing ns → AreAssertions (map negative_of ns)

-- members are of a bank exactly where the literals of each of their clauses are
abbrev pub MembersHaveLiterals : Type 0
MembersHaveLiterals = (bank : Bank) (ms : List Member) → AreMembersOf bank ms ↔ All (λ m. AreLiteralsOf bank m.clause.literals) ms

-- clauses that are the same, and whose references one table has, are equal by numbers
abbrev pub SameAreEqual : Type 0
SameAreEqual =
    (table : Table) (c d : BankClause)
    → All (IsKnown table) c.literals → All (IsKnown table) d.literals → clause_at c ≡ clause_at d → equal_by_numbers c d ≡ true
