-- Formulas without free variables.
use Rattle.std.specs.Prelude.{ℕ, Bool, true, ◌&&◌, List, ◌++◌}
use Rattle.tptp_token.specs.Spelling.{is_one_of}
use Rattle.tptp_tree.specs.Term.{TermTree, variable, application, TermTrees, no_terms, term_then}
use Rattle.tptp_tree.specs.Formula.{FormulaTree, truth, falsity, predicate, equation, negation, conjunction, disjunction, connected, quantified, FormulaTrees, no_formulas, formula_then}

-- each variable is one of these
abbrev mutual
  pub term_within : List (List ℕ) → TermTree → Bool
  term_within xs (variable x) = is_one_of xs x
  term_within xs (application f ts) = terms_within xs ts

  pub terms_within : List (List ℕ) → TermTrees → Bool
  terms_within xs no_terms = true
  terms_within xs (term_then t ts) = term_within xs t && terms_within xs ts

-- each variable is one of these, or a quantifier around it binds it
abbrev mutual
  pub closed_within : List (List ℕ) → FormulaTree → Bool
  closed_within xs truth = true
  closed_within xs falsity = true
  closed_within xs (predicate p ts) = terms_within xs ts
  closed_within xs (equation positive s t) = term_within xs s && term_within xs t
  closed_within xs (negation f) = closed_within xs f
  closed_within xs (conjunction fs) = all_closed_within xs fs
  closed_within xs (disjunction fs) = all_closed_within xs fs
  closed_within xs (connected c f g) = closed_within xs f && closed_within xs g
  closed_within xs (quantified q ys f) = closed_within (ys ++ xs) f

  pub all_closed_within : List (List ℕ) → FormulaTrees → Bool
  all_closed_within xs no_formulas = true
  all_closed_within xs (formula_then f fs) = closed_within xs f && all_closed_within xs fs
