-- The machine runs over the tokens of terms and atoms, as that of untyped formulas does.
use Rattle.std.proofs.Common.{◌≡◌, ℕ, Bool, true, false, Option, None, List, ◌∷◌, refl, ap, ◌∙◌}
use Rattle.tptp_token.specs.Lexemes.{Lexeme}
use Rattle.tptp_token.specs.Words.{bare, quoted}
use Rattle.tptp_tree.specs.Spelling.{TermPhrase, variable_word, word_with, TermPhrases, no_phrases, phrase_then, term_lexemes, arguments_lexemes, more_arguments_lexemes, Atom, true_atom, false_atom, predicate_atom, equation_atom, equals_lexeme, atom_lexemes}
use Rattle.tptp_tree.specs.Causes.{Refusal, Surroundings, deeper, begun, variable_cause, term_causes, arguments_causes, more_arguments_causes, atom_causes}
use Rattle.tptp_reader.proofs.AboutRuns.FollowLemmas.{EndsTerm, EndsAtom, atom-term}
use Rattle.tptp_reader.proofs.AboutRuns.RunTerms.{MayBeSign, MayBeAtom}
use Rattle.typed_machine.specs.TypedMachine.{TypedSymbol}
use Rattle.typed_machine.proofs.AboutRuns.PlainSymbols.{a_term, maybe_arguments, more_arguments, an_atom, maybe_applied, maybe_equation, an_equation}
use Rattle.typed_machine.proofs.AboutRuns.Traces.{Trace, marked, trace, marks}
use Rattle.typed_machine.proofs.AboutRuns.Follows.{Follows, weaker, skipped, arguments-pass, equation-pass, applied-pass}

more_arguments-follow :
    (s : Surroundings) (ts : TermPhrases) (rest : List Lexeme) (below : List TypedSymbol)
    → Follows EndsTerm (more_arguments_lexemes ts rest) (more_arguments s ∷ below)
more_arguments-follow s no_phrases rest below = refl
more_arguments-follow s (phrase_then t ts) rest below = refl

mutual
  pub term-runs :
      (s : Surroundings) (t : TermPhrase) (rest : List Lexeme) (below : List TypedSymbol) (cs : List (Option Refusal)) (r : Trace)
      → Follows EndsTerm rest below → trace rest below ≡ marks cs r
      → trace (term_lexemes t rest) (a_term s ∷ below) ≡ marks (term_causes s t cs) r
  term-runs s (variable_word x) rest below cs r f e = ap (marked (variable_cause s.scope x)) e
  term-runs s (word_with (bare w) ts) rest below cs r f e = ap (marked None) (arguments-run s ts rest below cs r f e)
  term-runs s (word_with (quoted w) ts) rest below cs r f e = ap (marked None) (arguments-run s ts rest below cs r f e)

  arguments-run :
      (s : Surroundings) (ts : TermPhrases) (rest : List Lexeme) (below : List TypedSymbol) (cs : List (Option Refusal)) (r : Trace)
      → Follows EndsTerm rest below → trace rest below ≡ marks cs r
      → trace (arguments_lexemes ts rest) (maybe_arguments s ∷ below) ≡ marks (arguments_causes s ts cs) r
  arguments-run s no_phrases rest below cs r f e = skipped (maybe_arguments s) EndsTerm rest below (arguments-pass s) f ∙ e
  arguments-run s (phrase_then t ts) rest below cs r f e = ap (marked (begun s))
      (term-runs (deeper s) t (more_arguments_lexemes ts rest) (more_arguments (deeper s) ∷ below) (more_arguments_causes (deeper s) ts cs) r
      (more_arguments-follow (deeper s) ts rest below) (more_arguments-run (deeper s) ts rest below cs r e))

  more_arguments-run :
      (s : Surroundings) (ts : TermPhrases) (rest : List Lexeme) (below : List TypedSymbol) (cs : List (Option Refusal)) (r : Trace)
      → trace rest below ≡ marks cs r
      → trace (more_arguments_lexemes ts rest) (more_arguments s ∷ below) ≡ marks (more_arguments_causes s ts cs) r
  more_arguments-run s no_phrases rest below cs r e = ap (marked None) e
  more_arguments-run s (phrase_then t ts) rest below cs r e =
      ap (marked None)
      (term-runs s t (more_arguments_lexemes ts rest) (more_arguments s ∷ below) (more_arguments_causes s ts cs) r
      (more_arguments-follow s ts rest below) (more_arguments-run s ts rest below cs r e))

-- behind the opening bracket
inside-runs :
    (s : Surroundings) (t : TermPhrase) (ts : TermPhrases) (rest : List Lexeme) (below : List TypedSymbol) (cs : List (Option Refusal)) (r : Trace)
    → trace rest below ≡ marks cs r
    → trace (term_lexemes t (more_arguments_lexemes ts rest)) (a_term (deeper s) ∷ more_arguments (deeper s) ∷ below)
    ≡ marks (term_causes (deeper s) t (more_arguments_causes (deeper s) ts cs)) r
inside-runs s t ts rest below cs r e =
    term-runs (deeper s) t (more_arguments_lexemes ts rest) (more_arguments (deeper s) ∷ below) (more_arguments_causes (deeper s) ts cs) r
    (more_arguments-follow (deeper s) ts rest below) (more_arguments-run (deeper s) ts rest below cs r e)

-- behind the word of a predicate atom
predicate-runs :
    (b : Bool) (s : Surroundings) (ts : TermPhrases) (rest : List Lexeme) (below : List TypedSymbol) (cs : List (Option Refusal)) (r : Trace)
    → Follows EndsAtom rest below → trace rest below ≡ marks cs r
    → trace (arguments_lexemes ts rest) (maybe_applied b s ∷ below) ≡ marks (arguments_causes s ts cs) r
predicate-runs b s no_phrases rest below cs r f e = skipped (maybe_applied b s) EndsAtom rest below (applied-pass b s) f ∙ e
predicate-runs b s (phrase_then t ts) rest below cs r f e =
    ap (marked (begun s))
    (inside-runs s t ts rest (maybe_equation b s ∷ below) cs r (skipped (maybe_equation b s) EndsAtom rest below (equation-pass b s) f ∙ e))

-- behind the word that begins an equation
equation-runs :
    (b positive : Bool) (s : Surroundings) (ts : TermPhrases) (t : TermPhrase) (rest : List Lexeme) (below : List TypedSymbol)
    (cs : List (Option Refusal)) (r : Trace)
    → MayBeSign b positive → Follows EndsAtom rest below → trace rest below ≡ marks cs r
    → trace (arguments_lexemes ts (equals_lexeme positive ∷ term_lexemes t rest)) (maybe_applied b s ∷ below)
    ≡ marks (arguments_causes s ts (None ∷ term_causes s t cs)) r
equation-runs b positive s ts t rest below cs r m f e =
    by b positive m ts (ap (marked None) (term-runs s t rest below cs r (weaker EndsAtom EndsTerm rest below atom-term f) e))
  where
    by :
        (b positive : Bool) → MayBeSign b positive → (ts : TermPhrases)
        → marked None (trace (term_lexemes t rest) (a_term s ∷ below)) ≡ marks (None ∷ term_causes s t cs) r
        → trace (arguments_lexemes ts (equals_lexeme positive ∷ term_lexemes t rest)) (maybe_applied b s ∷ below)
        ≡ marks (arguments_causes s ts (None ∷ term_causes s t cs)) r
    by true true m no_phrases g = g
    by true false m no_phrases g = g
    by false true m no_phrases g = g
    by false false m no_phrases g = absurd m
    by true true m (phrase_then u us) g =
        ap (marked (begun s)) (inside-runs s u us (equals_lexeme true ∷ term_lexemes t rest) (maybe_equation true s ∷ below) (None ∷ term_causes s t cs) r g)
    by true false m (phrase_then u us) g =
        ap (marked (begun s)) (inside-runs s u us (equals_lexeme false ∷ term_lexemes t rest) (maybe_equation true s ∷ below) (None ∷ term_causes s t cs) r g)
    by false true m (phrase_then u us) g =
        ap (marked (begun s)) (inside-runs s u us (equals_lexeme true ∷ term_lexemes t rest) (maybe_equation false s ∷ below) (None ∷ term_causes s t cs) r g)
    by false false m (phrase_then u us) g = absurd m

variable-runs :
    (b positive : Bool) (s : Surroundings) (x : List ℕ) (t : TermPhrase) (rest : List Lexeme) (below : List TypedSymbol)
    (cs : List (Option Refusal)) (r : Trace)
    → MayBeSign b positive → Follows EndsAtom rest below → trace rest below ≡ marks cs r
    → trace (equals_lexeme positive ∷ term_lexemes t rest) (an_equation b s ∷ below) ≡ marks (None ∷ term_causes s t cs) r
variable-runs b positive s x t rest below cs r m f e =
    by b positive m (ap (marked None) (term-runs s t rest below cs r (weaker EndsAtom EndsTerm rest below atom-term f) e))
  where
    by :
        (b positive : Bool) → MayBeSign b positive
        → marked None (trace (term_lexemes t rest) (a_term s ∷ below)) ≡ marks (None ∷ term_causes s t cs) r
        → trace (equals_lexeme positive ∷ term_lexemes t rest) (an_equation b s ∷ below) ≡ marks (None ∷ term_causes s t cs) r
    by true true m g = g
    by true false m g = g
    by false true m g = g
    by false false m g = absurd m

pub atom-runs :
    (b : Bool) (s : Surroundings) (a : Atom) (rest : List Lexeme) (below : List TypedSymbol) (cs : List (Option Refusal)) (r : Trace)
    → MayBeAtom b a → Follows EndsAtom rest below → trace rest below ≡ marks cs r
    → trace (atom_lexemes a rest) (an_atom b s ∷ below) ≡ marks (atom_causes s a cs) r
atom-runs b s true_atom rest below cs r m f e = ap (marked None) e
atom-runs b s false_atom rest below cs r m f e = ap (marked None) e
atom-runs b s (predicate_atom (bare w) ts) rest below cs r m f e = ap (marked None) (predicate-runs b s ts rest below cs r f e)
atom-runs b s (predicate_atom (quoted w) ts) rest below cs r m f e = ap (marked None) (predicate-runs b s ts rest below cs r f e)
atom-runs b s (equation_atom positive (variable_word x) t) rest below cs r m f e =
    ap (marked (variable_cause s.scope x)) (variable-runs b positive s x t rest below cs r m f e)
atom-runs b s (equation_atom positive (word_with (bare w) ts) t) rest below cs r m f e =
    ap (marked None) (equation-runs b positive s ts t rest below cs r m f e)
atom-runs b s (equation_atom positive (word_with (quoted w) ts) t) rest below cs r m f e =
    ap (marked None) (equation-runs b positive s ts t rest below cs r m f e)
