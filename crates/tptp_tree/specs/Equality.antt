-- Equality of formulas, as a test.
use Rattle.std.specs.Prelude.{◌≡◌, Bool, true, false, ◌&&◌, ◌↔◌, bytes_eq, IsTrue}
use Rattle.tptp_tree.specs.Term.{TermTree, variable, application, TermTrees, no_terms, term_then}
use Rattle.tptp_tree.specs.Formula.{FormulaTree}
use Rattle.tptp_tree.specs.Codes.{encoded}

-- whether two terms, or two lists of terms, are equal
abbrev mutual
  pub same_term : TermTree → TermTree → Bool
  same_term (variable x) (variable y) = bytes_eq x y
  same_term (variable x) (application g us) = false
  same_term (application f ts) (variable y) = false
  same_term (application f ts) (application g us) = bytes_eq f g && same_terms ts us

  pub same_terms : TermTrees → TermTrees → Bool
  same_terms no_terms no_terms = true
  same_terms no_terms (term_then u us) = false
  same_terms (term_then t ts) no_terms = false
  same_terms (term_then t ts) (term_then u us) = same_term t u && same_terms ts us

-- whether two formulas are equal: the terms that encode them are
abbrev pub same_formula : FormulaTree → FormulaTree → Bool
same_formula f g = same_term (encoded f) (encoded g)

-- the test passes exactly where the formulas are equal
abbrev pub SameFormulasAreEqual : Type 0
SameFormulasAreEqual = (f g : FormulaTree) → IsTrue (same_formula f g) ↔ (f ≡ g)
