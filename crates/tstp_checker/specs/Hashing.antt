-- The writes that an annotated formula feeds to a hasher: its names in their order, each after a number for its sort, and a mark at
-- the end of a list, so that different formulas feed different writes.
use Rattle.std.specs.Prelude.{◌+◌, true, false, [], ◌∷◌, ◌++◌}
use Rattle.std.specs.Hash.{HashWrites, u8}
use Rattle.tptp_tree.specs.Term.{TermTree, variable, application, TermTrees, no_terms, term_then}
use Rattle.tptp_tree.specs.Formula.{FormulaTree, truth, falsity, predicate, equation, negation, conjunction, disjunction, connected, quantified, FormulaTrees, no_formulas, formula_then}
use Rattle.tptp_tree.specs.Codes.{connective_number, quantifier_number, text_terms}
use Rattle.tptp_tree.specs.Entries.{AnnotatedTree}

abbrev mutual
  pub term_writes : TermTree → HashWrites
  term_writes (variable x) = u8 1 ++ x ∷ []
  term_writes (application f ts) = u8 2 ++ f ∷ terms_writes ts

  pub terms_writes : TermTrees → HashWrites
  terms_writes no_terms = u8 0
  terms_writes (term_then t ts) = term_writes t ++ terms_writes ts

abbrev mutual
  pub formula_writes : FormulaTree → HashWrites
  formula_writes truth = u8 1
  formula_writes falsity = u8 2
  formula_writes (predicate p ts) = u8 3 ++ p ∷ terms_writes ts
  formula_writes (equation true s t) = u8 4 ++ (term_writes s ++ term_writes t)
  formula_writes (equation false s t) = u8 5 ++ (term_writes s ++ term_writes t)
  formula_writes (negation f) = u8 6 ++ formula_writes f
  formula_writes (conjunction fs) = u8 7 ++ formulas_writes fs
  formula_writes (disjunction fs) = u8 8 ++ formulas_writes fs
  formula_writes (connected c f g) = u8 (9 + connective_number c) ++ (formula_writes f ++ formula_writes g)
  formula_writes (quantified q xs f) = u8 (15 + quantifier_number q) ++ (terms_writes (text_terms xs) ++ formula_writes f)

  pub formulas_writes : FormulaTrees → HashWrites
  formulas_writes no_formulas = u8 0
  formulas_writes (formula_then f fs) = formula_writes f ++ formulas_writes fs

-- Role and kind, which few formulas of one name and text differ in, are only compared.
abbrev pub entry_writes : AnnotatedTree → HashWrites
entry_writes a = a.name ∷ formula_writes a.formula
