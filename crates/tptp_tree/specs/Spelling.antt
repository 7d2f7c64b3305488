-- The formulas that a text spells (Sutcliffe 2017, this product's profile). The grammar's cases are trees of phrases; a
-- phrase has its tokens and its formula.
use Rattle.std.specs.Prelude.{◌≡◌, ℕ, Bool, true, false, List, [], ◌∷◌, codes}
use Rattle.tptp_token.specs.Words.{Word, name_of}
use Rattle.tptp_token.specs.Lexemes.{Lexeme, lexeme, word_lexeme, IsLexedAs}
use Rattle.tptp_token.specs.declared.token.Kind.TheVariants.{Variable, Dollar, Connective, Mark}
use Rattle.tptp_tree.specs.Term.{TermTree, variable, application, TermTrees, no_terms, term_then}
use Rattle.tptp_tree.specs.Formula.{BinaryConnective, implies, implied, equivalent, different, nor, nand, Quantifier, for_all, exists_some, FormulaTree, truth, falsity, predicate, equation, negation, conjunction, disjunction, connected, quantified, FormulaTrees, no_formulas, formula_then}

-- ---- terms: a variable, or a word and terms in brackets, or without brackets where there are none

-- A term as it is written: a variable, as `X`; or a word with terms in brackets, as `f(X,a)`, or alone, as `a`.
mutual
  pub data TermPhrase : Type 0 where
    variable_word : List ℕ → TermPhrase
    word_with : Word → TermPhrases → TermPhrase

  pub data TermPhrases : Type 0 where
    no_phrases : TermPhrases
    phrase_then : TermPhrase → TermPhrases → TermPhrases

-- the tokens of a term, of arguments with their brackets, and of the arguments after the first, then `rest`: `f`, `(`, `X`, `)`
abbrev mutual
  pub term_lexemes : TermPhrase → List Lexeme → List Lexeme
  term_lexemes (variable_word x) rest = lexeme Variable x ∷ rest
  term_lexemes (word_with w ts) rest = word_lexeme w ∷ arguments_lexemes ts rest

  pub arguments_lexemes : TermPhrases → List Lexeme → List Lexeme
  arguments_lexemes no_phrases rest = rest
  arguments_lexemes (phrase_then t ts) rest = lexeme Mark (codes "(") ∷ term_lexemes t (more_arguments_lexemes ts rest)

  pub more_arguments_lexemes : TermPhrases → List Lexeme → List Lexeme
  more_arguments_lexemes no_phrases rest = lexeme Mark (codes ")") ∷ rest
  more_arguments_lexemes (phrase_then t ts) rest = lexeme Mark (codes ",") ∷ term_lexemes t (more_arguments_lexemes ts rest)

-- the term that a phrase stands for, and the terms of a list of phrases
abbrev mutual
  pub term_meant : TermPhrase → TermTree
  term_meant (variable_word x) = variable x
  term_meant (word_with w ts) = application (name_of w) (terms_meant ts)

  pub terms_meant : TermPhrases → TermTrees
  terms_meant no_phrases = no_terms
  terms_meant (phrase_then t ts) = term_then (term_meant t) (terms_meant ts)

-- ---- atoms

-- An atom as it is written: `$true`, `$false`, a predicate as `p(X)` or `p`, or an equation as `X = a` (true) or `X != a` (false).
pub data Atom : Type 0 where
  true_atom : Atom
  false_atom : Atom
  predicate_atom : Word → TermPhrases → Atom
  equation_atom : Bool → TermPhrase → TermPhrase → Atom

-- the token `=` or `!=`
abbrev pub equals_lexeme : Bool → Lexeme
equals_lexeme true = lexeme Connective (codes "=")
equals_lexeme false = lexeme Connective (codes "!=")

-- the tokens of an atom, then `rest`
abbrev pub atom_lexemes : Atom → List Lexeme → List Lexeme
atom_lexemes true_atom rest = lexeme Dollar (codes "$true") ∷ rest
atom_lexemes false_atom rest = lexeme Dollar (codes "$false") ∷ rest
atom_lexemes (predicate_atom w ts) rest = word_lexeme w ∷ arguments_lexemes ts rest
atom_lexemes (equation_atom positive s t) rest = term_lexemes s (equals_lexeme positive ∷ term_lexemes t rest)

-- the formula that an atom stands for
abbrev pub atom_meant : Atom → FormulaTree
atom_meant true_atom = truth
atom_meant false_atom = falsity
atom_meant (predicate_atom w ts) = predicate (name_of w) (terms_meant ts)
atom_meant (equation_atom positive s t) = equation positive (term_meant s) (term_meant t)

-- ---- formulas

-- the variables of a quantifier, at least one: `X,Y`
pub record Variables : Type 0 where
  pub first : List ℕ
  pub others : List (List ℕ)

-- A formula (`Phrase`) is a unit, as `~p`; or at least two units with `&` between them, as `p & q & r`, or with `|`; or two units with
-- another connective, as `p => q`. A unit (`UnitPhrase`) is `~` and a unit; a quantifier and a unit, as `! [X,Y] : p(X)`; a formula in
-- brackets, as `(p & q)`; or an atom.
mutual
  pub data UnitPhrase : Type 0 where
    negated : UnitPhrase → UnitPhrase
    bound : Quantifier → Variables → UnitPhrase → UnitPhrase
    in_brackets : Phrase → UnitPhrase
    atomic : Atom → UnitPhrase

  pub data UnitPhrases : Type 0 where
    no_units : UnitPhrases
    unit_then : UnitPhrase → UnitPhrases → UnitPhrases

  pub data Phrase : Type 0 where
    alone : UnitPhrase → Phrase
    all_of : UnitPhrase → UnitPhrase → UnitPhrases → Phrase
    some_of : UnitPhrase → UnitPhrase → UnitPhrases → Phrase
    joined_by : BinaryConnective → UnitPhrase → UnitPhrase → Phrase

-- the token of a connective
abbrev pub connective_lexeme : BinaryConnective → Lexeme
connective_lexeme implies = lexeme Connective (codes "=>")
connective_lexeme implied = lexeme Connective (codes "<=")
connective_lexeme equivalent = lexeme Connective (codes "<=>")
connective_lexeme different = lexeme Connective (codes "<~>")
connective_lexeme nor = lexeme Connective (codes "~|")
connective_lexeme nand = lexeme Connective (codes "~&")

-- the token of a quantifier: `!` for all, `?` for some
abbrev pub quantifier_lexeme : Quantifier → Lexeme
quantifier_lexeme for_all = lexeme Connective (codes "!")
quantifier_lexeme exists_some = lexeme Connective (codes "?")

-- the tokens of the variables after the first, each with the comma before it, then `rest`
abbrev pub more_variables_lexemes : List (List ℕ) → List Lexeme → List Lexeme
more_variables_lexemes [] rest = rest
more_variables_lexemes (x ∷ xs) rest = lexeme Mark (codes ",") ∷ lexeme Variable x ∷ more_variables_lexemes xs rest

-- the tokens of a quantifier's variables with the commas between them, then `rest`
abbrev pub variables_lexemes : Variables → List Lexeme → List Lexeme
variables_lexemes xs rest = lexeme Variable xs.first ∷ more_variables_lexemes xs.others rest

-- the tokens of a unit, of further units, and of a formula, then `rest`
abbrev mutual
  pub unit_lexemes : UnitPhrase → List Lexeme → List Lexeme
  unit_lexemes (negated u) rest = lexeme Connective (codes "~") ∷ unit_lexemes u rest
  unit_lexemes (bound q xs u) rest =
      quantifier_lexeme q ∷ lexeme Mark (codes "[")
      ∷ variables_lexemes xs (lexeme Mark (codes "]") ∷ lexeme Mark (codes ":") ∷ unit_lexemes u rest)
  unit_lexemes (in_brackets p) rest = lexeme Mark (codes "(") ∷ phrase_lexemes p (lexeme Mark (codes ")") ∷ rest)
  unit_lexemes (atomic a) rest = atom_lexemes a rest

  -- each unit with the sign before it, `&` or `|`
  pub units_lexemes : Lexeme → UnitPhrases → List Lexeme → List Lexeme
  units_lexemes sign no_units rest = rest
  units_lexemes sign (unit_then u us) rest = sign ∷ unit_lexemes u (units_lexemes sign us rest)

  pub phrase_lexemes : Phrase → List Lexeme → List Lexeme
  phrase_lexemes (alone u) rest = unit_lexemes u rest
  phrase_lexemes (all_of u v us) rest =
      unit_lexemes u
      (lexeme Connective (codes "&") ∷ unit_lexemes v (units_lexemes (lexeme Connective (codes "&")) us rest))
  phrase_lexemes (some_of u v us) rest =
      unit_lexemes u
      (lexeme Connective (codes "|") ∷ unit_lexemes v (units_lexemes (lexeme Connective (codes "|")) us rest))
  phrase_lexemes (joined_by c u v) rest = unit_lexemes u (connective_lexeme c ∷ unit_lexemes v rest)

-- The formula that a unit stands for, the formulas of further units, and the formula that a phrase stands for. Brackets say nothing:
-- `(p & q) & r` is a conjunction of two operands, `p & q & r` of three.
abbrev mutual
  pub unit_meant : UnitPhrase → FormulaTree
  unit_meant (negated u) = negation (unit_meant u)
  unit_meant (bound q xs u) = quantified q (xs.first ∷ xs.others) (unit_meant u)
  unit_meant (in_brackets p) = meant p
  unit_meant (atomic a) = atom_meant a

  pub units_meant : UnitPhrases → FormulaTrees
  units_meant no_units = no_formulas
  units_meant (unit_then u us) = formula_then (unit_meant u) (units_meant us)

  pub meant : Phrase → FormulaTree
  meant (alone u) = unit_meant u
  meant (all_of u v us) = conjunction (formula_then (unit_meant u) (formula_then (unit_meant v) (units_meant us)))
  meant (some_of u v us) = disjunction (formula_then (unit_meant u) (formula_then (unit_meant v) (units_meant us)))
  meant (joined_by c u v) = connected c (unit_meant u) (unit_meant v)

-- ---- texts

-- the text spells the formula
abbrev pub SpellsFormula : List ℕ → FormulaTree → Type 0
SpellsFormula text f = (p : Phrase) × IsLexedAs text (phrase_lexemes p []) × (meant p ≡ f)

-- the text spells the name
abbrev pub SpellsName : List ℕ → List ℕ → Type 0
SpellsName text name = (w : Word) × IsLexedAs text (word_lexeme w ∷ []) × (name_of w ≡ name)
