-- A printed formula spells its tree again, if the tree was spelled as an annotated formula.
use Rattle.std.specs.Prelude.{◌≡◌, ℕ, Bool, true, List, []}
use Rattle.tptp_token.specs.Lexemes.{IsLexedAs}
use Rattle.tptp_tree.specs.Formula.{FormulaTree}
use Rattle.tptp_tree.specs.Printing.{formula_text}
use Rattle.tptp_tree.specs.Spelling.{SpellsFormula}
use Rattle.tptp_tree.specs.Entries.{ClausePhrase, clause_lexemes, clause_meant}

-- the text spells the clause
abbrev pub SpellsClause : List ℕ → FormulaTree → Type 0
SpellsClause text f = (c : ClausePhrase) × IsLexedAs text (clause_lexemes c []) × (clause_meant c ≡ f)

-- The printed formula spells the tree again: as a formula, and where it stood in `cnf` also as a clause.
pub record IsPrintedAgain (is_clause : Bool) (f : FormulaTree) : Type 0 where
  pub formula : SpellsFormula (formula_text f) f
  pub clause : is_clause ≡ true → SpellsClause (formula_text f) f
