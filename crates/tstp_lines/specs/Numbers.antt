-- The numbers of a line's symbols and variables, as they are met one after another.
use Rattle.std.specs.Prelude.{◌≡◌, ℕ, List, fold}
use Rattle.fol_base.specs.Tree.{Tree, Trees}
use Rattle.tptp_tree.specs.Term.{TermTree, TermTrees}
use Rattle.signature.specs.declared.symbol.Symbol.{Symbol}
use Rattle.signature.specs.declared.symbol.SymbolKind.{SymbolKind}
use Rattle.signature.specs.Symbol.{with_symbol}
use Rattle.signature.specs.Environment.{terms_under}
use Rattle.clausal_form.specs.DerivationClause.{Numbering, numbered_from, term_by}
use Rattle.tstp_lines.specs.Tables.{with_name}
use Rattle.tstp_lines.specs.declared.numbers.LineNumbers.{LineNumbers}

abbrev pub symbol_for : SymbolKind → List ℕ → ℕ → Symbol
symbol_for kind name arity = record { kind = kind; name = name; arity = arity }

abbrev pub numbering_of : LineNumbers → Numbering
numbering_of n = record { symbols = n.symbols; variables = numbered_from 0 n.variables }

-- the second numbers are the first, and those of the symbols and variables that are met next
pub record Meets (n m : LineNumbers) (ss : List Symbol) (xs : List (List ℕ)) : Type 0 where
  pub symbols : m.symbols ≡ fold with_symbol n.symbols ss
  pub variables : m.variables ≡ fold with_name n.variables xs

-- the second numbers go on from the first
pub record GoesOn (n m : LineNumbers) : Type 0 where
  pub symbols_met : List Symbol
  pub names_met : List (List ℕ)
  pub met : Meets n m symbols_met names_met

-- the tree is the term by these numbers, and by all that go on from them
abbrev pub IsTerm : LineNumbers → TermTree → Tree → Type 0
IsTerm n t u = (m : LineNumbers) → GoesOn n m → u ≡ term_by (numbering_of m) t

abbrev pub AreTerms : LineNumbers → TermTrees → Trees → Type 0
AreTerms n ts us = (m : LineNumbers) → GoesOn n m → us ≡ terms_under m.symbols (numbered_from 0 m.variables) ts
