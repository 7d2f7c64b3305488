-- What stands in a table: its entries, and what has to be right of them.
use Rattle.std.specs.Prelude.{◌≡◌, ℕ, List, [], ◌∷◌, ◌++◌, map, None, is_some, if◌then◌else◌, ⊤}
use Rattle.std.specs.List.{All}
use Rattle.std.specs.Map.{lookup}
use Rattle.fol_base.specs.Tree.{Tree, tree_eq}
use Rattle.term_bank.specs.Chain.{IsChained}
use Rattle.term_bank.specs.Bank.{IsOf, number, tree_at}
use Rattle.term_bank.specs.declared.bank.Bank.{Bank}
use Rattle.term_bank.specs.declared.chains.Entry.{Entry}

-- a tree with its number
abbrev pub entry_of : Entry → Tree × ℕ
entry_of e = (tree_at e.reference, number e.reference)

-- the entries after a tree is interned: a known one changes nothing, a new one goes last
abbrev pub interned : List (Tree × ℕ) → Tree → ℕ → List (Tree × ℕ)
interned known t n = if is_some (lookup (tree_eq t) known) then known else known ++ (t, n) ∷ []

-- no tree stands twice in a list of entries
abbrev pub NoTreeTwice : List (Tree × ℕ) → Type 0
NoTreeTwice [] = ⊤
NoTreeTwice (e ∷ es) = (lookup (tree_eq e.0) es ≡ None) × NoTreeTwice es

-- The entries are of the bank, no tree stands twice among them, and the chains lead to all of them.
pub record AreEntriesOf (bank : Bank) (es : List Entry) (heads : List (ℕ × ℕ)) : Type 0 where
  pub references : All (λ e. IsOf bank e.reference) es
  pub once : NoTreeTwice (map entry_of es)
  pub chained : IsChained (map entry_of es) (map (λ e. e.older) es) heads
