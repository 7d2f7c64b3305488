-- Literals in a bank, and the literals over trees for which they stand.
use Rattle.std.specs.Prelude.{◌≡◌, false, Bool, List, map}
use Rattle.std.specs.Bool.{beq}
use Rattle.std.specs.Ordering.{on, eq_of_both}
use Rattle.std.specs.List.{All}
use Rattle.fol_base.specs.Clause.{TreeLiteral}
use Rattle.term_bank.specs.Bank.{tree_at, same_number, IsOf, IsDefault}
use Rattle.term_bank.specs.declared.bank.Bank.{Bank}
use Rattle.term_bank.specs.declared.literal.BankLit.{BankLit}

-- both sides are of the bank
abbrev pub IsLiteralOf : Bank → BankLit → Type 0
IsLiteralOf bank l = IsOf bank l.left × IsOf bank l.right

-- all literals of a list are of the bank
abbrev pub AreLiteralsOf : Bank → List BankLit → Type 0
AreLiteralsOf bank ls = All (IsLiteralOf bank) ls

-- the literal for which a literal of a bank stands: the same sign, and the trees of its sides
abbrev pub literal_at : BankLit → TreeLiteral
literal_at l = record { positive = l.positive; left = tree_at l.left; right = tree_at l.right }

abbrev pub literals_at : List BankLit → List TreeLiteral
literals_at ls = map literal_at ls

-- the literals have the same sign, and the same numbers on both sides
abbrev pub same_numbers : BankLit → BankLit → Bool
same_numbers = eq_of_both (on (λ l. l.positive) beq) (eq_of_both (on (λ l. l.left) same_number) (on (λ l. l.right) same_number))

-- the literal that fills places which aren't used yet: its sides are of no bank
abbrev pub IsDefaultLiteral : BankLit → Type 0
IsDefaultLiteral l = (l.positive ≡ false) × IsDefault l.left × IsDefault l.right
