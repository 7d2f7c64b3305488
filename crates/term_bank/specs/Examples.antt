-- Tables, references and literals for the worked examples.
use Rattle.std.specs.Prelude.{ℕ, false, List}
use Rattle.fol_base.specs.Tree.{Tree}
use Rattle.fol_base.specs.Examples.{a, f}
use Rattle.term_bank.specs.declared.literal.BankLit.{BankLit}
use Rattle.term_bank.specs.declared.reference.TermRef.{TermRef}
use Rattle.term_bank.specs.declared.table.Table.{Table}

-- a table of these entries
abbrev pub table_of : List (Tree × ℕ) → Table
table_of es = record { bank = 0; entries = es }

-- the reference with this number to this tree
abbrev pub under : ℕ → Tree → TermRef
under n t = record { number = n; bank = 1; tree = t }

-- the literal a != f(a), under the numbers 7 and 8
abbrev pub numbered_literal : BankLit
numbered_literal = record { positive = false; left = under 7 a; right = under 8 (f a) }
