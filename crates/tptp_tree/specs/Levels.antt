-- How deep levels are nested. A level is begun by `~`, by a quantifier and by a bracket, and ends with its unit or its closing bracket.
-- A phrase has the levels of its tokens, a tree those of its printed text.
use Rattle.std.specs.Prelude.{◌≡◌, ℕ, suc, ◌≤◌, max, Bool, true, false, not, List, [], ◌∷◌}
use Rattle.tptp_token.specs.Lexemes.{IsLexedAs}
use Rattle.tptp_tree.specs.Term.{TermTree, variable, application, TermTrees, no_terms, term_then}
use Rattle.tptp_tree.specs.Formula.{FormulaTree, truth, falsity, predicate, equation, negation, conjunction, disjunction, connected, quantified, FormulaTrees, no_formulas, formula_then}
use Rattle.tptp_tree.specs.Printing.{is_joined, is_bare}
use Rattle.tptp_tree.specs.Spelling.{Atom, atom_meant, UnitPhrase, negated, bound, in_brackets, atomic, UnitPhrases, no_units, unit_then, Phrase, alone, all_of, some_of, joined_by, phrase_lexemes, meant}
use Rattle.tptp_tree.specs.Entries.{atom_of, LiteralPhrase, positive_literal, negated_literal, negated_in_brackets, ClausePhrase, literals, clause_in_brackets, Body, formula_body, clause_body, body_meant}

-- ---- terms

-- how deep the brackets of a term, of arguments, and of the deepest of several terms are nested: 2 in `f(g(a))`, 0 in `a`
abbrev mutual
  pub term_levels : TermTree → ℕ
  term_levels (variable x) = 0
  term_levels (application f ts) = arguments_levels ts

  -- arguments together with their brackets
  pub arguments_levels : TermTrees → ℕ
  arguments_levels no_terms = 0
  arguments_levels (term_then t ts) = suc (max (term_levels t) (terms_levels ts))

  pub terms_levels : TermTrees → ℕ
  terms_levels no_terms = 0
  terms_levels (term_then t ts) = max (term_levels t) (terms_levels ts)

-- ---- printed formulas

-- one level more where there are parentheses
abbrev pub with_parentheses : Bool → ℕ → ℕ
with_parentheses true levels = suc levels
with_parentheses false levels = levels

-- How deep the levels of a printed formula, or of the deepest of several operands, are nested: 2 in `~p(a)`. A quantifier is a level,
-- and the bracket of its variables is a level inside it.
abbrev mutual
  pub formula_levels : FormulaTree → ℕ
  formula_levels truth = 0
  formula_levels falsity = 0
  formula_levels (predicate p ts) = arguments_levels ts
  formula_levels (equation positive s t) = max (term_levels s) (term_levels t)
  formula_levels (negation f) = suc (with_parentheses (not (is_bare f)) (formula_levels f))
  formula_levels (conjunction fs) = operands_levels fs
  formula_levels (disjunction fs) = operands_levels fs
  formula_levels (connected c f g) =
      max (with_parentheses (is_joined f) (formula_levels f)) (with_parentheses (is_joined g) (formula_levels g))
  formula_levels (quantified q xs f) = suc (max 1 (with_parentheses (is_joined f) (formula_levels f)))

  pub operands_levels : FormulaTrees → ℕ
  operands_levels no_formulas = 0
  operands_levels (formula_then f fs) = max (with_parentheses (is_joined f) (formula_levels f)) (operands_levels fs)

-- ---- phrases

-- the levels of an atom, which is written as it is printed
abbrev pub atom_levels : Atom → ℕ
atom_levels a = formula_levels (atom_meant a)

-- how deep the levels of a unit, of the deepest of several units, and of a formula are nested as they are written
abbrev mutual
  pub unit_levels : UnitPhrase → ℕ
  unit_levels (negated u) = suc (unit_levels u)
  unit_levels (bound q xs u) = suc (max 1 (unit_levels u))
  unit_levels (in_brackets p) = suc (phrase_levels p)
  unit_levels (atomic a) = atom_levels a

  pub units_levels : UnitPhrases → ℕ
  units_levels no_units = 0
  units_levels (unit_then u us) = max (unit_levels u) (units_levels us)

  pub phrase_levels : Phrase → ℕ
  phrase_levels (alone u) = unit_levels u
  phrase_levels (all_of u v us) = max (unit_levels u) (max (unit_levels v) (units_levels us))
  phrase_levels (some_of u v us) = max (unit_levels u) (max (unit_levels v) (units_levels us))
  phrase_levels (joined_by c u v) = max (unit_levels u) (unit_levels v)

-- how deep the levels of a literal are nested: 2 in `~p(a)`, 3 in `~(p(a))`
abbrev pub literal_levels : LiteralPhrase → ℕ
literal_levels (positive_literal a) = atom_levels a
literal_levels (negated_literal a) = suc (atom_levels (atom_of a))
literal_levels (negated_in_brackets a) = suc (suc (atom_levels (atom_of a)))

-- the levels of the deepest literal
abbrev pub literals_levels : List LiteralPhrase → ℕ
literals_levels [] = 0
literals_levels (l ∷ ls) = max (literal_levels l) (literals_levels ls)

-- the levels of a clause: each pair of brackets round it is one more
abbrev pub clause_levels : ClausePhrase → ℕ
clause_levels (literals l ls) = literals_levels (l ∷ ls)
clause_levels (clause_in_brackets c) = suc (clause_levels c)

-- the levels of the body of an annotated formula
abbrev pub body_levels : Body → ℕ
body_levels (formula_body p) = phrase_levels p
body_levels (clause_body c) = clause_levels c

-- ---- texts

-- the text spells the formula, nested at most `levels` deep
abbrev pub SpellsFormulaWithin : ℕ → List ℕ → FormulaTree → Type 0
SpellsFormulaWithin levels text f =
    (p : Phrase) × IsLexedAs text (phrase_lexemes p []) × (meant p ≡ f) × (phrase_levels p ≤ levels)

-- the formula is written by some formula or clause that is nested at most `levels` deep
abbrev pub IsWrittenWithin : ℕ → FormulaTree → Type 0
IsWrittenWithin levels f = (b : Body) × (body_meant b ≡ f) × (body_levels b ≤ levels)
