-- Literals and clauses by the numbers of a line, and by all that go on from them.
use Rattle.std.specs.Prelude.{◌≡◌, ℕ, Bool, List, map, filter, is_none}
use Rattle.fol_base.specs.Clause.{TreeLiteral, TreeClause}
use Rattle.tptp_tree.specs.Formula.{FormulaTree}
use Rattle.clausal_form.specs.DerivationClause.{literal_name, atom_by, literal_by, clause_by}
use Rattle.tstp_lines.specs.declared.numbers.LineNumbers.{LineNumbers}
use Rattle.tstp_lines.specs.Numbers.{GoesOn, numbering_of}

abbrev pub IsAtom : LineNumbers → Bool → FormulaTree → TreeLiteral → Type 0
IsAtom n positive f l = (m : LineNumbers) → GoesOn n m → l ≡ atom_by (numbering_of m) positive f

abbrev pub IsLiteral : LineNumbers → FormulaTree → TreeLiteral → Type 0
IsLiteral n f l = (m : LineNumbers) → GoesOn n m → l ≡ literal_by (numbering_of m) f

abbrev pub AreLiterals : LineNumbers → List FormulaTree → List TreeLiteral → Type 0
AreLiterals n fs ls = (m : LineNumbers) → GoesOn n m → ls ≡ map (literal_by (numbering_of m)) fs

abbrev pub IsClause : LineNumbers → List (List ℕ) → FormulaTree → TreeClause → Type 0
IsClause n names f c = (m : LineNumbers) → GoesOn n m → c ≡ clause_by (numbering_of m) names f

-- the literals that are no names
abbrev pub ordinary : List (List ℕ) → List FormulaTree → List FormulaTree
ordinary names fs = filter (λ l. is_none (literal_name names l)) fs
