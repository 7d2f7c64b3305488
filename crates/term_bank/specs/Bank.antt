-- The words by which callers speak of a bank and its references. Nothing says what a whole bank holds, since other threads may add
-- to it.
use Rattle.std.specs.Prelude.{◌≡◌, ℕ, suc, ◌*◌, ◌^◌, nat_eq, Bool, List}
use Rattle.std.specs.List.{All}
use Rattle.fol_base.specs.Tree.{Tree, variable}
use Rattle.term_bank.specs.declared.reference.TermRef.{TermRef}
use Rattle.term_bank.specs.declared.bank.Bank.{Bank}
use Rattle.term_bank.specs.declared.rows.TheConstants.{ROWS}

-- which bank this is, for good: a number that contracts alone see
abbrev pub identity : Bank → ℕ
identity bank = bank

-- the number of a reference
abbrev pub number : TermRef → ℕ
number r = r.number

-- the tree for which a reference stands
abbrev pub tree_at : TermRef → Tree
tree_at r = r.tree

-- the reference is of the bank
abbrev pub IsOf : Bank → TermRef → Type 0
IsOf bank r = r.bank ≡ suc (identity bank)

-- the references have the same number
abbrev pub same_number : TermRef → TermRef → Bool
same_number r s = nat_eq (number r) (number s)

-- all references of a list are of the bank
abbrev pub AreOf : Bank → List TermRef → Type 0
AreOf bank rs = All (IsOf bank) rs

-- the reference that fills places which aren't used yet: it is of no bank, and its number is that of the first row that no bank has
abbrev pub IsDefault : TermRef → Type 0
IsDefault r = r ≡ record { number = ROWS * 2 ^ 32; bank = 0; tree = variable 0 }
