-- Worked examples: the clause p(X0) | X0 != a with the assertion of the name 3, in a bank that has its four sides.
use Rattle.std.specs.Prelude.{◌≡◌, true, false, [], ◌∷◌}
use Rattle.plain_types.specs.Names.{negative_of}
use Rattle.fol_base.specs.Tree.{true_tree}
use Rattle.fol_base.specs.Clause.{TreeClause}
use Rattle.fol_base.specs.Examples.{x, a, p}
use Rattle.fol_base.specs.Rules.{disequation}
use Rattle.term_bank.specs.Bank.{tree_at, AreOf}
use Rattle.term_bank.specs.Examples.{table_of, under}
use Rattle.term_bank.specs.declared.table.Table.{Table}
use Rattle.term_bank.specs.declared.bank.Bank.{Bank}
use Rattle.term_bank.specs.declared.literal.BankLit.{BankLit}
use Rattle.term_bank.specs.declared.reference.TermRef.{TermRef}
use Rattle.bank_clause.specs.Clause.{clause_at, IsClauseOf}
use Rattle.bank_clause.specs.declared.clause.BankClause.{BankClause}

abbrev pub row : TreeClause
row = record { literals = p (x 0) ∷ disequation (x 0) a ∷ []; names = negative_of 3 ∷ [] }

-- the same with another variable
abbrev pub row_of_another : TreeClause
row_of_another = record { literals = p (x 1) ∷ disequation (x 1) a ∷ []; names = negative_of 3 ∷ [] }

-- the bank has p(X0), $true, X0 and a, under these references
pub record HasSides (bank : Bank) (first second third fourth : TermRef) : Type 0 where
  pub are_of : AreOf bank (first ∷ second ∷ third ∷ fourth ∷ [])
  pub atom : tree_at first ≡ (p (x 0)).left
  pub truth : tree_at second ≡ true_tree
  pub unknown : tree_at third ≡ x 0
  pub constant : tree_at fourth ≡ a

-- the bank clause of these references
abbrev pub over : TermRef → TermRef → TermRef → TermRef → BankClause
over first second third fourth =
    let atom : BankLit = record { positive = true; left = first; right = second } in
    let other_than_a : BankLit = record { positive = false; left = third; right = fourth } in
    record { literals = atom ∷ other_than_a ∷ []; names = 3 ∷ [] }

abbrev pub StandsForRow : Type 0
StandsForRow =
    (bank : Bank) (first second third fourth : TermRef)
    → HasSides bank first second third fourth → clause_at (over first second third fourth) ≡ row

abbrev pub IsOfItsBank : Type 0
IsOfItsBank =
    (bank : Bank) (first second third fourth : TermRef)
    → HasSides bank first second third fourth → IsClauseOf bank (over first second third fourth)

-- a table that has the numbers 0 to 3 for these sides
abbrev pub known_sides : Table
known_sides = table_of (((p (x 0)).left, 0) ∷ (true_tree, 1) ∷ (x 0, 2) ∷ (a, 3) ∷ [])

-- the clause under these numbers, and under another one of its constant
abbrev pub first_clause : BankClause
first_clause = over (under 0 (p (x 0)).left) (under 1 true_tree) (under 2 (x 0)) (under 3 a)

abbrev pub other_clause : BankClause
other_clause = over (under 0 (p (x 0)).left) (under 1 true_tree) (under 2 (x 0)) (under 7 a)
