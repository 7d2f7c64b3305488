-- A problem has at most as many formulas, occurrences and quantified variables as bytes were loaded for it: each is spelled by
-- a token of its own, and tokens have at least one byte each.
use Rattle.std.proofs.Common.{◌≡◌, ℕ, zero, suc, ◌+◌, ◌-◌, ◌≤◌, Bool, true, false, cond, Option, List, [], ◌∷◌, ◌++◌, codes, map, drop, length, refl, ap, sym, ◌∙◌, arith, length-append, length-drop}
use Rattle.std.proofs.lemmas.List.{length-map}
use Rattle.tptp_problem.specs.declared.limits.TheConstants.{MOST_INCLUDES, MOST_PROBLEM_BYTES}
use Rattle.outside.specs.Library.{Holdings}
use Rattle.tptp_token.specs.Pieces.{piece_of}
use Rattle.tptp_token.specs.Lexing.{with_piece, piece_length, lexed_from, lexed_of}
use Rattle.tptp_token.specs.Lexemes.{Lexeme, lexeme, lexeme_at}
use Rattle.tptp_token.specs.declared.token.Kind.TheVariants.{Connective, Mark}
use Rattle.tptp_token.specs.declared.token.Lexed.{Lexed}
use Rattle.tptp_token.specs.declared.piece.Piece.{Piece}
use Rattle.tptp_token.specs.declared.piece.Piece.TheVariants.{Token, Space, Bad, Unclosed}
use Rattle.tptp_tree.specs.declared.problem.Annotated.{Annotated}
use Rattle.tptp_tree.specs.Term.{term_size, terms_size}
use Rattle.tptp_tree.specs.ProblemSize.{occurrences, all_occurrences, problem_size, HasProblemSize}
use Rattle.tptp_tree.specs.Spelling.{TermPhrase, variable_word, word_with, TermPhrases, no_phrases, phrase_then, term_lexemes, arguments_lexemes, more_arguments_lexemes, term_meant, terms_meant, Atom, true_atom, false_atom, predicate_atom, equation_atom, equals_lexeme, atom_lexemes, atom_meant, UnitPhrase, negated, bound, in_brackets, atomic, UnitPhrases, no_units, unit_then, Phrase, alone, all_of, some_of, joined_by, connective_lexeme, more_variables_lexemes, unit_lexemes, units_lexemes, phrase_lexemes, unit_meant, units_meant, meant}
use Rattle.tptp_tree.specs.Entries.{atom_of, LiteralPhrase, positive_literal, negated_literal, negated_in_brackets, ClausePhrase, literals, clause_in_brackets, literal_lexemes, more_literals_lexemes, clause_lexemes, literal_meant, literals_meant, clause_meant, Body, formula_body, clause_body, body_lexemes, body_meant, AnnotatedPhrase, notes_lexemes, annotated_lexemes, names_meant}
use Rattle.tptp_problem.specs.Files.{base_of}
use Rattle.tptp_problem.specs.Languages.{PlacedTree, Language, selects, selected}
use Rattle.tptp_problem.specs.Formulas.{Placed, placed, annotated_formulas}
use Rattle.tptp_problem.specs.Includes.{is_include}
use Rattle.tptp_problem.specs.Problem.{LoadedFile, Progress, Step, Reads, tokens_of, lexemes, with_file, IsStepBy, IsIncludeStep, IsFormulaStep, AreSteps, next_behind, progress_behind, formulas_along, ReadsText, ReadsNamed, IsWhole, IsProblem}
use Rattle.tptp_problem.proofs.AboutReading.AwaitLemmas.{include-length}
use Rattle.tptp_problem.proofs.AboutReading.IncludeTokens.{width}

-- ---- phrases: each occurrence has a token

mutual
  term-long : (t : TermPhrase) (rest : List Lexeme) → term_size (term_meant t) + length rest ≤ length (term_lexemes t rest)
  term-long (variable_word x) rest = omega arith
  term-long (word_with w ts) rest = omega (arith, arguments-long ts rest)

  arguments-long : (ts : TermPhrases) (rest : List Lexeme) → terms_size (terms_meant ts) + length rest ≤ length (arguments_lexemes ts rest)
  arguments-long no_phrases rest = omega arith
  arguments-long (phrase_then t ts) rest = omega (arith, term-long t (more_arguments_lexemes ts rest), more-arguments-long ts rest)

  more-arguments-long : (ts : TermPhrases) (rest : List Lexeme) → terms_size (terms_meant ts) + length rest ≤ length (more_arguments_lexemes ts rest)
  more-arguments-long no_phrases rest = omega arith
  more-arguments-long (phrase_then t ts) rest = omega (arith, term-long t (more_arguments_lexemes ts rest), more-arguments-long ts rest)

pub atom-long : (a : Atom) (rest : List Lexeme) → occurrences (atom_meant a) + length rest ≤ length (atom_lexemes a rest)
atom-long true_atom rest = omega arith
atom-long false_atom rest = omega arith
atom-long (predicate_atom w ts) rest = omega (arith, arguments-long ts rest)
atom-long (equation_atom positive s t) rest = omega (arith, term-long s (equals_lexeme positive ∷ term_lexemes t rest), term-long t rest)

variables-long : (xs : List (List ℕ)) (rest : List Lexeme) → length xs + length rest ≤ length (more_variables_lexemes xs rest)
variables-long [] rest = omega arith
variables-long (x ∷ xs) rest = omega (arith, variables-long xs rest)

mutual
  unit-long : (u : UnitPhrase) (rest : List Lexeme) → occurrences (unit_meant u) + length rest ≤ length (unit_lexemes u rest)
  unit-long (negated u) rest = omega (arith, unit-long u rest)
  unit-long (bound q xs u) rest =
      let names = variables-long xs.others (lexeme Mark (codes "]") ∷ lexeme Mark (codes ":") ∷ unit_lexemes u rest) in
      omega (arith, names, unit-long u rest)
  unit-long (in_brackets p) rest = omega (arith, phrase-long p (lexeme Mark (codes ")") ∷ rest))
  unit-long (atomic a) rest = atom-long a rest

  units-long :
      (sign : Lexeme) (us : UnitPhrases) (rest : List Lexeme) → all_occurrences (units_meant us) + length rest ≤ length (units_lexemes sign us rest)
  units-long sign no_units rest = omega arith
  units-long sign (unit_then u us) rest = omega (arith, unit-long u (units_lexemes sign us rest), units-long sign us rest)

  phrase-long : (p : Phrase) (rest : List Lexeme) → occurrences (meant p) + length rest ≤ length (phrase_lexemes p rest)
  phrase-long (alone u) rest = unit-long u rest
  phrase-long (all_of u v us) rest =
      let sign = lexeme Connective (codes "&") in
      let first = unit-long u (sign ∷ unit_lexemes v (units_lexemes sign us rest)) in
      omega (arith, first, unit-long v (units_lexemes sign us rest), units-long sign us rest)
  phrase-long (some_of u v us) rest =
      let sign = lexeme Connective (codes "|") in
      let first = unit-long u (sign ∷ unit_lexemes v (units_lexemes sign us rest)) in
      omega (arith, first, unit-long v (units_lexemes sign us rest), units-long sign us rest)
  phrase-long (joined_by c u v) rest = omega (arith, unit-long u (connective_lexeme c ∷ unit_lexemes v rest), unit-long v rest)

literal-long : (l : LiteralPhrase) (rest : List Lexeme) → occurrences (literal_meant l) + length rest ≤ length (literal_lexemes l rest)
literal-long (positive_literal a) rest = atom-long a rest
literal-long (negated_literal a) rest = omega (arith, atom-long (atom_of a) rest)
literal-long (negated_in_brackets a) rest = omega (arith, atom-long (atom_of a) (lexeme Mark (codes ")") ∷ rest))

literals-long :
    (ls : List LiteralPhrase) (rest : List Lexeme) → all_occurrences (literals_meant ls) + length rest ≤ length (more_literals_lexemes ls rest)
literals-long [] rest = omega arith
literals-long (l ∷ ls) rest = omega (arith, literal-long l (more_literals_lexemes ls rest), literals-long ls rest)

clause-long : (c : ClausePhrase) (rest : List Lexeme) → occurrences (clause_meant c) + length rest ≤ length (clause_lexemes c rest)
clause-long (literals l []) rest = literal-long l rest
clause-long (literals l (m ∷ ls)) rest = omega (arith, literal-long l (more_literals_lexemes (m ∷ ls) rest), literals-long (m ∷ ls) rest)
clause-long (clause_in_brackets c) rest = omega (arith, clause-long c (lexeme Mark (codes ")") ∷ rest))

body-long : (b : Body) (rest : List Lexeme) → occurrences (body_meant b) + length rest ≤ length (body_lexemes b rest)
body-long (formula_body p) rest = phrase-long p rest
body-long (clause_body c) rest = clause-long c rest

pub notes-long : (ns rest : List Lexeme) → length rest ≤ length (notes_lexemes ns rest)
notes-long [] rest = omega arith
notes-long (n ∷ ns) rest = omega (arith, length-append ns rest)

annotated-long :
    (p : AnnotatedPhrase) (rest : List Lexeme) → 1 + occurrences (body_meant p.body) + length rest ≤ length (annotated_lexemes p rest)
annotated-long p rest =
    let closing : List Lexeme = lexeme Mark (codes ")") ∷ lexeme Mark (codes ".") ∷ rest in
    omega (arith, body-long p.body (notes_lexemes p.notes closing), notes-long p.notes closing)

-- ---- texts: each token has a byte

piece-short : (place : ℕ) (piece : Piece) (lexed : Lexed) → length (with_piece place piece lexed).tokens ≤ 1 + length lexed.tokens
piece-short place (Token kind n) lexed = omega arith
piece-short place (Space n) lexed = omega arith
piece-short place (Bad offset) lexed = omega arith
piece-short place Unclosed lexed = omega arith

tokens-from-short : (place skipped : ℕ) (bytes : List ℕ) → length (lexed_from place skipped bytes).tokens ≤ length bytes
unfolding lexed_from
tokens-from-short place zero [] = omega arith
tokens-from-short place (suc skipped) [] = omega arith
tokens-from-short place (suc skipped) (byte ∷ bytes) = omega (arith, tokens-from-short (place + 1) skipped bytes)
tokens-from-short place zero (byte ∷ bytes) =
    let piece = piece_of byte bytes in
    let rest = tokens-from-short (place + 1) (piece_length piece - 1) bytes in
    omega (arith, piece-short place piece (lexed_from (place + 1) (piece_length piece - 1) bytes), rest)

tokens-short : (bytes : List ℕ) → length (lexed_of bytes).tokens ≤ length bytes
unfolding lexed_of
tokens-short bytes = tokens-from-short 0 0 bytes

-- Each formula of a language has a token more than it weighs, and ends within the tokens.
abbrev pub AreShort : {Tree Cause : Type 0} → Language Tree Cause → (Tree → ℕ) → Type 0
AreShort {Tree} language weight =
    (file bytes : List ℕ) (first : ℕ) (f : PlacedTree Tree) (n : ℕ) → language.IsRead file bytes first f n
    → (1 + weight f.tree + first ≤ n) × (n ≤ length (lexed_of bytes).tokens)

module _ {Tree Cause : Type 0} (language : Language Tree Cause) (weight : Tree → ℕ) (short : AreShort language weight) where
  -- ---- formulas

  abbrev size : List (PlacedTree Tree) → ℕ
  size [] = 0
  size (f ∷ fs) = 1 + weight f.tree + size fs

  size-joined : (fs gs : List (PlacedTree Tree)) → size (fs ++ gs) ≡ size fs + size gs
  size-joined [] gs = omega arith
  size-joined (f ∷ fs) gs = omega (arith, size-joined fs gs)

  size-selected : (names : List (List ℕ)) (fs : List (PlacedTree Tree)) → size (selected language names fs) ≤ size fs
  size-selected names [] = omega arith
  size-selected names (f ∷ fs) = by (selects names (language.name f.tree)) (size-selected names fs)
    where
      by : (b : Bool) → size (selected language names fs) ≤ size fs → size (cond b (f ∷ selected language names fs) (selected language names fs)) ≤ size (f ∷ fs)
      by true more = omega (arith, more)
      by false more = omega (arith, more)

  -- ---- entries: their formulas have at most as many as the tokens and the bytes that were loaded

  -- a file and its includes: what they add to the bytes, and that these stay within the limit
  pub record IsWithin (start : Progress) (fs : List (PlacedTree Tree)) (now : Progress) : Type 0 where
    pub sized : size fs + start.loaded ≤ now.loaded
    pub limited : now.loaded ≤ MOST_PROBLEM_BYTES

  pub record AllWithin (reads : Reads language) : Type 0 where
    pub all :
        (name : List ℕ) (around : List (List (List ℕ))) (start now : Progress) (fs : List (PlacedTree Tree)) → start.loaded ≤ MOST_PROBLEM_BYTES
        → reads name around start fs now → IsWithin start fs now

  -- from a token up to another
  pub record IsStretch (tokens : ℕ) (first : ℕ) (start : Progress) (fs : List (PlacedTree Tree)) (now : Progress) (next : ℕ) : Type 0 where
    pub sized : size fs + start.loaded + first ≤ now.loaded + next
    pub limited : now.loaded ≤ MOST_PROBLEM_BYTES
    pub within : next ≤ tokens

  lexemes-long : (file : LoadedFile) → length (lexemes file) ≡ length (tokens_of file)
  lexemes-long file = length-map (tokens_of file) (lexeme_at file.bytes)

  formula-stretch :
      (file : LoadedFile) (first : ℕ) (start : Progress) (s : Step language) → start.loaded ≤ MOST_PROBLEM_BYTES
      → IsFormulaStep language file first start s → IsStretch (length (tokens_of file)) first start s.formulas s.progress s.next
  formula-stretch file first start s room h =
      let long = short file.name file.bytes first h.formula s.next h.read in
      let sizes : size s.formulas ≡ 1 + weight h.formula.tree + 0 = ap size h.formulas_are in
      let loaded : s.progress.loaded ≡ start.loaded = ap (λ (q : Progress). q.loaded) h.progress_is in
      record {
        sized = omega (arith, sizes, loaded, long.0);
        limited = omega (arith, loaded, room);
        within = long.1;
      }

  include-stretch :
      (base : List ℕ) (reads : Reads language) (file : LoadedFile) (first : ℕ) (start : Progress) (s : Step language) → first ≤ length (tokens_of file)
      → start.loaded ≤ MOST_PROBLEM_BYTES → AllWithin reads → IsIncludeStep language base reads file first start s
      → IsStretch (length (tokens_of file)) first start s.formulas s.progress s.next
  include-stretch base reads file first start s small room inner h =
      let within = inner.all _ _ start s.progress h.formulas room h.read in
      let from : length (lexemes file) - first ≡ width h.names + length (drop s.next (lexemes file)) =
      sym (length-drop first (lexemes file)) ∙ ap length h.spelled.spelled ∙ include-length h.file h.names (drop s.next (lexemes file)) in
      let far = length-drop s.next (lexemes file) in
      let fewer = size-selected (names_meant h.names) h.formulas in
      let taken : size s.formulas ≡ size (selected language (names_meant h.names) h.formulas) = ap size h.taken in
      record {
        sized = omega (arith, within.sized, fewer, taken, from, far, lexemes-long file, small, h.spelled.within);
        limited = within.limited;
        within = omega (arith, h.spelled.within, lexemes-long file);
      }

  step-stretch :
      (base : List ℕ) (reads : Reads language) (file : LoadedFile) (b : Bool) (first : ℕ) (start : Progress) (s : Step language) → first ≤ length (tokens_of file)
      → start.loaded ≤ MOST_PROBLEM_BYTES → AllWithin reads → IsStepBy language base reads file b first start s
      → IsStretch (length (tokens_of file)) first start s.formulas s.progress s.next
  step-stretch base reads file true first start s small room inner h = include-stretch base reads file first start s small room inner h
  step-stretch base reads file false first start s small room inner h = formula-stretch file first start s room h

  steps-stretch :
      (base : List ℕ) (reads : Reads language) (file : LoadedFile) (first : ℕ) (start : Progress) (ss : List (Step language)) → first ≤ length (tokens_of file)
      → start.loaded ≤ MOST_PROBLEM_BYTES → AllWithin reads → AreSteps language base reads file first start ss
      → IsStretch (length (tokens_of file)) first start (formulas_along language ss) (progress_behind language start ss) (next_behind language first ss)
  steps-stretch base reads file first start [] small room inner h = record { sized = omega arith; limited = room; within = small }
  steps-stretch base reads file first start (s ∷ ss) small room inner h =
      let here = step-stretch base reads file (is_include (drop first (lexemes file))) first start s small room inner h.0.1 in
      let more = steps-stretch base reads file s.next s.progress ss here.within here.limited inner h.1 in
      record {
        sized = omega (arith, here.sized, more.sized, size-joined s.formulas (formulas_along language ss));
        limited = more.limited;
        within = more.within;
      }

  -- ---- files

  text-within :
      (base : List ℕ) (reads : Reads language) (file : LoadedFile) (start : Progress) (fs : List (PlacedTree Tree)) (now : Progress)
      → start.loaded + length file.bytes ≤ MOST_PROBLEM_BYTES → AllWithin reads → ReadsText language base reads file (with_file file.bytes start) fs now
      → IsWithin start fs now
  text-within base reads file start fs now room inner h =
      let along = steps-stretch base reads file 0 (with_file file.bytes start) h.steps (omega arith) room inner h.are in
      let same : size fs ≡ size (formulas_along language h.steps) = ap size h.formulas_are in
      let loaded : now.loaded ≡ (progress_behind language (with_file file.bytes start) h.steps).loaded = ap (λ (q : Progress). q.loaded) h.progress_is in
      record {
        sized = omega (arith, along.sized, along.within, same, loaded, tokens-short file.bytes);
        limited = omega (arith, along.limited, loaded);
      }

  named-within : (told : Option Holdings) (base : List ℕ) (depth : ℕ) → AllWithin (ReadsNamed language told base depth)
  named-within told base zero = record { all = λ name around start now fs room h. absurd h }
  named-within told base (suc depth) =
      record {
        all =
            λ name around start now fs room h.
            let more : start.loaded + length h.bytes ≤ MOST_PROBLEM_BYTES = omega (arith, room, h.given.within) in
            text-within base (ReadsNamed language told base depth) (record { name = name; bytes = h.bytes; around = around }) start fs now more
            (named-within told base depth) h.text;
      }

  pub whole-within :
      (told : Option Holdings) (file : List ℕ) (root : Option (List ℕ)) (fs : List (PlacedTree Tree)) (h : IsWhole language told file root fs)
      → IsWithin (record { loaded = 0; met = false }) fs h.0
  whole-within told file root fs h =
      (named-within told (base_of root file) (suc MOST_INCLUDES)).all file [] (record { loaded = 0; met = false }) h.0 fs (omega arith) h.1

-- ---- problems

annotated-short : AreShort annotated_formulas (λ tree. occurrences tree.formula)
annotated-short file bytes first f n h =
    let p = h.reading.phrase in
    let source : LoadedFile = record { name = file; bytes = bytes; around = [] } in
    let said : occurrences f.tree.formula ≡ occurrences (body_meant p.body) =
    ap (λ (g : Placed). occurrences g.tree.formula) h.formula_is ∙ ap occurrences h.reading.meant.formula in
    let from : length (lexemes source) - first ≡ length (annotated_lexemes p (drop h.read.next (lexemes source))) =
    sym (length-drop first (lexemes source)) ∙ ap length h.reading.spelled.spelled in
    let long = annotated-long p (drop h.read.next (lexemes source)) in
    let far = length-drop h.read.next (lexemes source) in
    let tokens : length (lexemes source) ≡ length (lexed_of bytes).tokens = length-map (lexed_of bytes).tokens (lexeme_at bytes) in
    (omega (arith, said, from, long, far, tokens, h.next_is, h.reading.within), omega (arith, h.next_is, h.reading.within))

size-of-problem : (fs : List Annotated) → problem_size fs ≡ size annotated_formulas (λ tree. occurrences tree.formula) annotated-short (map placed fs)
size-of-problem [] = refl
size-of-problem (f ∷ fs) = omega (arith, size-of-problem fs)

problem-within :
    (told : Option Holdings) (file : List ℕ) (root : Option (List ℕ)) (fs : List Placed) (h : IsProblem told file root fs)
    → IsWithin annotated_formulas (λ tree. occurrences tree.formula) annotated-short (record { loaded = 0; met = false }) fs h.0
problem-within told file root fs h = whole-within annotated_formulas (λ tree. occurrences tree.formula) annotated-short told file root fs h

pub size-loaded :
    (told : Option Holdings) (file : List ℕ) (root : Option (List ℕ)) (fs : List Annotated) (h : IsProblem told file root (map placed fs))
    → problem_size fs ≤ h.0.loaded
size-loaded told file root fs h = omega (arith, (problem-within told file root (map placed fs) h).sized, size-of-problem fs)

pub loaded-limited :
    (told : Option Holdings) (file : List ℕ) (root : Option (List ℕ)) (fs : List Placed) (h : IsProblem told file root fs)
    → h.0.loaded ≤ MOST_PROBLEM_BYTES
loaded-limited told file root fs h = (problem-within told file root fs h).limited

pub size-limited :
    (told : Option Holdings) (file : List ℕ) (root : Option (List ℕ)) (fs : List Annotated) → IsProblem told file root (map placed fs) → HasProblemSize fs
size-limited told file root fs h = omega (arith, size-loaded told file root fs h, loaded-limited told file root (map placed fs) h)
