-- Clauses in a bank: what they stand for, and which are of the bank.
use Rattle.std.specs.Prelude.{◌≡◌, ℕ, ◌+◌, ◌*◌, nat_eq, Bool, false, List, [], ◌∷◌, map, flat_map, Some}
use Rattle.std.specs.Ordering.{on, eq_of_both}
use lib.Pointwise.{pointwise}
use Rattle.std.specs.List.{All}
use Rattle.std.specs.List.Sorted.{IsStrictlyIncreasing}
use Rattle.plain_types.specs.declared.sequence.NameLit.{NameLit}
use Rattle.fol_base.specs.Tree.{Tree}
use Rattle.fol_base.specs.Clause.{TreeLiteral, TreeClause}
use Rattle.fol_base.specs.declared.clause.Side.{Side}
use Rattle.fol_base.specs.declared.clause.Side.TheVariants.{Left, Right}
use Rattle.term_bank.specs.Bank.{number, tree_at}
use Rattle.term_bank.specs.Table.{number_in}
use Rattle.term_bank.specs.Literal.{AreLiteralsOf, same_numbers}
use Rattle.term_bank.specs.declared.literal.BankLit.{BankLit}
use Rattle.term_bank.specs.declared.bank.Bank.{Bank}
use Rattle.term_bank.specs.declared.table.Table.{Table}
use Rattle.bank_clause.specs.Parts.{clause_over}
use Rattle.bank_clause.specs.declared.clause.BankClause.{BankClause}
use Rattle.bank_clause.specs.declared.member.Member.{Member}

-- the clause for which a clause of a bank stands
abbrev pub clause_at : BankClause → TreeClause
clause_at c = clause_over c.literals c.names

-- the names are negative, and their numbers rise
pub record AreAssertions (ns : List NameLit) : Type 0 where
  pub negative : All (λ n. n.positive ≡ false) ns
  pub rise : IsStrictlyIncreasing (map (λ n. n.name) ns)

-- the clause is of the bank: all its references are
abbrev pub IsClauseOf : Bank → BankClause → Type 0
IsClauseOf bank c = AreLiteralsOf bank c.literals

-- the clauses have the same signs, the same numbers on all sides, and the same names
abbrev pub equal_by_numbers : BankClause → BankClause → Bool
equal_by_numbers = eq_of_both (on (λ c. c.literals) (pointwise same_numbers)) (on (λ c. c.names) (pointwise nat_eq))

-- the member's clause is of the bank
abbrev pub IsMemberOf : Bank → Member → Type 0
IsMemberOf bank m = IsClauseOf bank m.clause

-- the clauses of all members of a list are
abbrev pub AreMembersOf : Bank → List Member → Type 0
AreMembersOf bank ms = All (IsMemberOf bank) ms

-- the sides of literals, from left to right
abbrev pub literal_sides : TreeLiteral → List Tree
literal_sides l = l.left ∷ l.right ∷ []

abbrev pub sides : List TreeLiteral → List Tree
sides ls = flat_map literal_sides ls

-- the left side of literal i of several, or of the unit with number i, has the number 2i, its right side the next one
abbrev pub side_number : ℕ → Side → ℕ
side_number i Left = 2 * i
side_number i Right = 2 * i + 1

-- the references of a literal are those that the table has for its sides
abbrev pub IsKnown : Table → BankLit → Type 0
IsKnown table l = (number_in table (tree_at l.left) ≡ Some (number l.left)) × (number_in table (tree_at l.right) ≡ Some (number l.right))
