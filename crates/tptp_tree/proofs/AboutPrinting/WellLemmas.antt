-- What a text spells has names that can be printed.
use Rattle.std.proofs.Common.{◌≡◌, ℕ, true, false, List, [], ◌∷◌, map, subst}
use Rattle.std.specs.List.{AllByRecursion}
use Rattle.tptp_token.specs.Spelling.{spells, is_variable_word}
use Rattle.tptp_token.specs.Lexing.{lexed_of}
use Rattle.tptp_token.specs.Lexemes.{Lexeme, lexeme_at, IsLexedAs, word_lexeme}
use Rattle.tptp_token.specs.declared.token.Token.{Token as TokenRecord}
use Rattle.tptp_token.proofs.AboutLexemes.LexemeLemmas.{tokens-spelled}
use Rattle.tptp_token.specs.Words.{Word, bare, quoted, name_of}
use Rattle.tptp_tree.specs.Spelling.{TermPhrase, variable_word, word_with, TermPhrases, no_phrases, phrase_then, term_lexemes, arguments_lexemes, more_arguments_lexemes, term_meant, terms_meant, Atom, true_atom, false_atom, predicate_atom, equation_atom, atom_lexemes, atom_meant, UnitPhrase, negated, bound, in_brackets, atomic, UnitPhrases, no_units, unit_then, Phrase, alone, all_of, some_of, joined_by, more_variables_lexemes, unit_lexemes, units_lexemes, phrase_lexemes, unit_meant, units_meant, meant}
use Rattle.tptp_tree.proofs.AboutNames.NameLemmas.{WellName, lower-well, quoted-well}
use Rattle.tptp_tree.proofs.AboutPrinting.CanonicalLemmas.{WellTerm, WellTerms, WellFormula, WellFormulas}

-- the bytes spell the kind
abbrev pub IsSpelled : Lexeme → Type 0
IsSpelled l = spells l.kind l.bytes ≡ true

abbrev pub AreSpelled : List Lexeme → Type 0
AreSpelled = AllByRecursion IsSpelled

pub lexemes-spelled :
    (text : List ℕ) (tokens : List TokenRecord)
    → AllByRecursion (λ (t : TokenRecord). spells t.kind (lexeme_at text t).bytes ≡ true) tokens
    → AreSpelled (map (lexeme_at text) tokens)
lexemes-spelled text [] h = tt
lexemes-spelled text (t ∷ ts) h = (h.0, lexemes-spelled text ts h.1)

pub text-spelled : (text : List ℕ) (lexemes : List Lexeme) → IsLexedAs text lexemes → AreSpelled lexemes
text-spelled text lexemes l = subst AreSpelled l.tokens (lexemes-spelled text (lexed_of text).tokens (tokens-spelled text))

pub word-well : (w : Word) → IsSpelled (word_lexeme w) → WellName (name_of w)
word-well (bare bytes) h = lower-well bytes h
word-well (quoted bytes) h = quoted-well bytes h

mutual
  term-well : (t : TermPhrase) (ls : List Lexeme) → AreSpelled (term_lexemes t ls) → WellTerm (term_meant t) × AreSpelled ls
  term-well (variable_word x) ls h = (h.0, h.1)
  term-well (word_with w ts) ls h = let more = arguments-well ts ls h.1 in ((word-well w h.0, more.0), more.1)

  arguments-well :
      (ts : TermPhrases) (ls : List Lexeme) → AreSpelled (arguments_lexemes ts ls) → WellTerms (terms_meant ts) × AreSpelled ls
  arguments-well no_phrases ls h = (tt, h)
  arguments-well (phrase_then t ts) ls h =
      let first = term-well t (more_arguments_lexemes ts ls) h.1 in
      let more = more_arguments-well ts ls first.1 in ((first.0, more.0), more.1)

  more_arguments-well :
      (ts : TermPhrases) (ls : List Lexeme)
      → AreSpelled (more_arguments_lexemes ts ls) → WellTerms (terms_meant ts) × AreSpelled ls
  more_arguments-well no_phrases ls h = (tt, h.1)
  more_arguments-well (phrase_then t ts) ls h =
      let first = term-well t (more_arguments_lexemes ts ls) h.1 in
      let more = more_arguments-well ts ls first.1 in ((first.0, more.0), more.1)

atom-well : (a : Atom) (ls : List Lexeme) → AreSpelled (atom_lexemes a ls) → WellFormula (atom_meant a) × AreSpelled ls
atom-well true_atom ls h = (tt, h.1)
atom-well false_atom ls h = (tt, h.1)
atom-well (predicate_atom w ts) ls h = let more = arguments-well ts ls h.1 in ((word-well w h.0, more.0), more.1)
atom-well (equation_atom true s t) ls h =
    let left = term-well s _ h in let right = term-well t ls left.1.1 in ((left.0, right.0), right.1)
atom-well (equation_atom false s t) ls h =
    let left = term-well s _ h in let right = term-well t ls left.1.1 in ((left.0, right.0), right.1)

more_variables-well :
    (xs : List (List ℕ)) (ls : List Lexeme)
    → AreSpelled (more_variables_lexemes xs ls) → AllByRecursion (λ x. is_variable_word x ≡ true) xs × AreSpelled ls
more_variables-well [] ls h = (tt, h)
more_variables-well (x ∷ xs) ls h = let more = more_variables-well xs ls h.1.1 in ((h.1.0, more.0), more.1)

mutual
  unit-well : (u : UnitPhrase) (ls : List Lexeme) → AreSpelled (unit_lexemes u ls) → WellFormula (unit_meant u) × AreSpelled ls
  unit-well (negated u) ls h = unit-well u ls h.1
  unit-well (bound q xs u) ls h =
      let variables = more_variables-well xs.others _ h.1.1.1 in
      let body = unit-well u ls variables.1.1.1 in ((tt, (h.1.1.0, variables.0), body.0), body.1)
  unit-well (in_brackets p) ls h = let inside = phrase-well p _ h.1 in (inside.0, inside.1.1)
  unit-well (atomic a) ls h = atom-well a ls h

  units-well :
      (one : Lexeme) (us : UnitPhrases) (ls : List Lexeme)
      → AreSpelled (units_lexemes one us ls) → WellFormulas (units_meant us) × AreSpelled ls
  units-well one no_units ls h = (tt, h)
  units-well one (unit_then u us) ls h =
      let first = unit-well u (units_lexemes one us ls) h.1 in
      let more = units-well one us ls first.1 in ((first.0, more.0), more.1)

  pub phrase-well : (p : Phrase) (ls : List Lexeme) → AreSpelled (phrase_lexemes p ls) → WellFormula (meant p) × AreSpelled ls
  phrase-well (alone u) ls h = unit-well u ls h
  phrase-well (all_of u v us) ls h =
      let first = unit-well u _ h in
      let second = unit-well v _ first.1.1 in
      let more = units-well _ us ls second.1 in ((tt, (first.0, (second.0, more.0))), more.1)
  phrase-well (some_of u v us) ls h =
      let first = unit-well u _ h in
      let second = unit-well v _ first.1.1 in
      let more = units-well _ us ls second.1 in ((tt, (first.0, (second.0, more.0))), more.1)
  phrase-well (joined_by c u v) ls h =
      let first = unit-well u _ h in let second = unit-well v ls first.1.1 in ((first.0, second.0), second.1)

pub spelled-well : (text : List ℕ) (p : Phrase) → IsLexedAs text (phrase_lexemes p []) → WellFormula (meant p)
spelled-well text p l = (phrase-well p [] (text-spelled text (phrase_lexemes p []) l)).0
