-- The tokens of an annotated formula in front of a rest are more than the rest.
use Rattle.std.proofs.Common.{ℕ, ◌<◌, ◌≤◌, List, [], ◌∷◌, ◌++◌, length, codes, arith}
use Rattle.tptp_token.specs.Lexemes.{Lexeme, lexeme}
use Rattle.tptp_token.specs.declared.token.Kind.TheVariants.{Connective, Mark}
use Rattle.tptp_tree.specs.Spelling.{TermPhrase, variable_word, word_with, TermPhrases, no_phrases, phrase_then, term_lexemes, arguments_lexemes, more_arguments_lexemes, Atom, true_atom, false_atom, predicate_atom, equation_atom, equals_lexeme, atom_lexemes, more_variables_lexemes, connective_lexeme, UnitPhrase, negated, bound, in_brackets, atomic, UnitPhrases, no_units, unit_then, Phrase, alone, all_of, some_of, joined_by, unit_lexemes, units_lexemes, phrase_lexemes}
use Rattle.tptp_tree.specs.Entries.{LiteralPhrase, positive_literal, negated_literal, negated_in_brackets, atom_of, literal_lexemes, more_literals_lexemes, ClausePhrase, literals, clause_in_brackets, clause_lexemes, Body, formula_body, clause_body, body_lexemes, notes_lexemes, AnnotatedPhrase, annotated_lexemes}

-- the rest is no longer than the tokens
abbrev Within : List Lexeme → List Lexeme → Type 0
Within rest tokens = length rest ≤ length tokens

mutual
  term-within : (t : TermPhrase) (rest : List Lexeme) → Within rest (term_lexemes t rest)
  term-within (variable_word x) rest = omega arith
  term-within (word_with w ts) rest = omega (arith, arguments-within ts rest)

  arguments-within : (ts : TermPhrases) (rest : List Lexeme) → Within rest (arguments_lexemes ts rest)
  arguments-within no_phrases rest = omega arith
  arguments-within (phrase_then t ts) rest =
      omega (arith, term-within t (more_arguments_lexemes ts rest), more-within ts rest)

  more-within : (ts : TermPhrases) (rest : List Lexeme) → Within rest (more_arguments_lexemes ts rest)
  more-within no_phrases rest = omega arith
  more-within (phrase_then t ts) rest = omega (arith, term-within t (more_arguments_lexemes ts rest), more-within ts rest)

atom-within : (a : Atom) (rest : List Lexeme) → Within rest (atom_lexemes a rest)
atom-within true_atom rest = omega arith
atom-within false_atom rest = omega arith
atom-within (predicate_atom w ts) rest = omega (arith, arguments-within ts rest)
atom-within (equation_atom positive s t) rest =
    omega (arith, term-within s (equals_lexeme positive ∷ term_lexemes t rest), term-within t rest)

variables-within : (xs : List (List ℕ)) (rest : List Lexeme) → Within rest (more_variables_lexemes xs rest)
variables-within [] rest = omega arith
variables-within (x ∷ xs) rest = omega (arith, variables-within xs rest)

mutual
  unit-within : (u : UnitPhrase) (rest : List Lexeme) → Within rest (unit_lexemes u rest)
  unit-within (negated u) rest = omega (arith, unit-within u rest)
  unit-within (bound q xs u) rest =
      omega
      (arith, variables-within xs.others (lexeme Mark (codes "]") ∷ lexeme Mark (codes ":") ∷ unit_lexemes u rest), unit-within u rest)
  unit-within (in_brackets p) rest = omega (arith, phrase-within p (lexeme Mark (codes ")") ∷ rest))
  unit-within (atomic a) rest = atom-within a rest

  units-within : (sign : Lexeme) (us : UnitPhrases) (rest : List Lexeme) → Within rest (units_lexemes sign us rest)
  units-within sign no_units rest = omega arith
  units-within sign (unit_then u us) rest = omega (arith, unit-within u (units_lexemes sign us rest), units-within sign us rest)

  phrase-within : (p : Phrase) (rest : List Lexeme) → Within rest (phrase_lexemes p rest)
  phrase-within (alone u) rest = unit-within u rest
  phrase-within (all_of u v us) rest =
      omega (
        arith,
        unit-within u (lexeme Connective (codes "&") ∷ unit_lexemes v (units_lexemes (lexeme Connective (codes "&")) us rest)),
        unit-within v (units_lexemes (lexeme Connective (codes "&")) us rest),
        units-within (lexeme Connective (codes "&")) us rest,
      )
  phrase-within (some_of u v us) rest =
      omega (
        arith,
        unit-within u (lexeme Connective (codes "|") ∷ unit_lexemes v (units_lexemes (lexeme Connective (codes "|")) us rest)),
        unit-within v (units_lexemes (lexeme Connective (codes "|")) us rest),
        units-within (lexeme Connective (codes "|")) us rest,
      )
  phrase-within (joined_by c u v) rest = omega (arith, unit-within u (connective_lexeme c ∷ unit_lexemes v rest), unit-within v rest)

literal-within : (l : LiteralPhrase) (rest : List Lexeme) → Within rest (literal_lexemes l rest)
literal-within (positive_literal a) rest = atom-within a rest
literal-within (negated_literal a) rest = omega (arith, atom-within (atom_of a) rest)
literal-within (negated_in_brackets a) rest = omega (arith, atom-within (atom_of a) (lexeme Mark (codes ")") ∷ rest))

literals-within : (ls : List LiteralPhrase) (rest : List Lexeme) → Within rest (more_literals_lexemes ls rest)
literals-within [] rest = omega arith
literals-within (l ∷ ls) rest = omega (arith, literal-within l (more_literals_lexemes ls rest), literals-within ls rest)

clause-within : (c : ClausePhrase) (rest : List Lexeme) → Within rest (clause_lexemes c rest)
clause-within (literals l ls) rest = omega (arith, literal-within l (more_literals_lexemes ls rest), literals-within ls rest)
clause-within (clause_in_brackets c) rest = omega (arith, clause-within c (lexeme Mark (codes ")") ∷ rest))

body-within : (b : Body) (rest : List Lexeme) → Within rest (body_lexemes b rest)
body-within (formula_body p) rest = phrase-within p rest
body-within (clause_body c) rest = clause-within c rest

joined-within : (ns rest : List Lexeme) → Within rest (ns ++ rest)
joined-within [] rest = omega arith
joined-within (n ∷ ns) rest = omega (arith, joined-within ns rest)

notes-within : (ns rest : List Lexeme) → Within rest (notes_lexemes ns rest)
notes-within [] rest = omega arith
notes-within (n ∷ ns) rest = omega (arith, joined-within ns rest)

pub annotated-longer : (p : AnnotatedPhrase) (rest : List Lexeme) → length rest < length (annotated_lexemes p rest)
annotated-longer p rest =
    let end : List Lexeme = lexeme Mark (codes ")") ∷ lexeme Mark (codes ".") ∷ rest in
    omega (arith, body-within p.body (notes_lexemes p.notes end), notes-within p.notes end)
