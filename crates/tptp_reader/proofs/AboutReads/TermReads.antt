-- Steps of reading terms.
use Rattle.std.proofs.Common.{◌≡◌, ◌<◌, ◌≤◌, ℕ, ◌+◌, true, false, List, [], ◌∷◌, ◌++◌, map, drop, refl, sym, ap, ap₂, ◌∙◌, arith, codes}
use Rattle.tptp_token.specs.Lexemes.{Lexeme, is_mark, lexeme, word_lexeme}
use Rattle.tptp_token.specs.declared.token.Kind.TheVariants.{Mark}
use Rattle.tptp_tree.specs.Term.{TermTree, variable, application, TermTrees, term_then, terms_of}
use Rattle.tptp_token.specs.Words.{name_of, is_word, is_variable, word_of}
use Rattle.tptp_tree.specs.Spelling.{TermPhrase, variable_word, word_with, TermPhrases, no_phrases, phrase_then, term_lexemes, more_arguments_lexemes, term_meant, terms_meant}
use Rattle.tptp_tree.specs.Causes.{deeper}
use Rattle.tptp_reader.specs.Machine.{Symbol, a_term, maybe_arguments, more_arguments, arguments}
use Rattle.tptp_reader.specs.Telling.{lexemes, IsNext, Ends, Halts, one, further, is_free_among, term_refusal, ReadsTerm, ReadsArguments, ReadsBracketed}
use Rattle.tptp_reader.specs.declared.source.Reader.{Reader}
use Rattle.tptp_reader.specs.declared.source.Name.{Name}
use Rattle.tptp_reader.specs.declared.cause.Halt.{Halt}
use Rattle.tptp_reader.specs.declared.cause.Halt.TheVariants.{At}
use Rattle.tptp_reader.specs.declared.cause.Refusal.TheVariants.{Syntax, FreeVariable, Nesting}
use Rattle.tptp_reader.proofs.AboutTexts.TellingLemmas.{leads-then, ends-after, Suits-deeper, halt-is}
use Rattle.tptp_reader.proofs.AboutSteps.StepLemmas.{word-spelled, word-leads, variable-spelled, variable-leads, variable-ends, other-ends, open-leads, open-ends, none-leads, more-closed, more-comma, more-ends}
use Rattle.tptp_reader.proofs.AboutRuns.LoopLemmas.{SoFar, sofar-first, sofar-more, sofar-closed, sofar-halts, sofar-item-halts, mark-is, next-mark}

-- ---- arguments

pub no_arguments-read :
    (r : Reader) (names : List Name) (level at : ℕ) (t : Lexeme) (none : List TermTree)
    → IsNext r at t → is_mark (codes "(") t ≡ false → none ≡ [] → ReadsArguments r names level at at (terms_of none)
no_arguments-read r names level at t none n h e =
    record {
      phrase = no_phrases;
      spelled = refl;
      meant = ap terms_of (sym e);
      leads = record { by = λ s f. none-leads r at s t n h; onward = omega arith };
    }

phrases_of : List TermPhrase → TermPhrases
phrases_of [] = no_phrases
phrases_of (t ∷ ts) = phrase_then t (phrases_of ts)

further-spelled :
    (ts : List TermPhrase) (rest : List Lexeme)
    → further term_lexemes (lexeme Mark (codes ",")) ts (lexeme Mark (codes ")") ∷ rest) ≡ more_arguments_lexemes (phrases_of ts) rest
unfolding phrases_of
further-spelled [] rest = refl
further-spelled (t ∷ ts) rest = ap (λ us. lexeme Mark (codes ",") ∷ term_lexemes t us) (further-spelled ts rest)

phrases-meant : (ts : List TermPhrase) → terms_meant (phrases_of ts) ≡ terms_of (map term_meant ts)
unfolding phrases_of
phrases-meant [] = refl
phrases-meant (t ∷ ts) = ap (term_then (term_meant t)) (phrases-meant ts)

pub arguments-read :
    (r : Reader) (names : List Name) (level deep at next : ℕ) (t : Lexeme) (values : List TermTree)
    → IsNext r at t → is_mark (codes "(") t ≡ true → deep ≡ level + 1 → level < r.limit
    → ReadsBracketed r names deep (at + 1) next values → ReadsArguments r names level at next (terms_of values)
arguments-read r names level deep at next t values n h e low b =
    let first = b.phrase.first in
    let others = b.phrase.others in
    record {
      phrase = phrase_then first (phrases_of others);
      spelled =
          n.here ∙ ap (λ u. u ∷ drop (at + 1) (lexemes r)) (mark-is (codes "(") t h)
          ∙ ap (λ us. lexeme Mark (codes "(") ∷ us) b.spelled
          ∙ ap (λ us. lexeme Mark (codes "(") ∷ term_lexemes first us) (further-spelled others (drop next (lexemes r)));
      meant = ap (term_then (term_meant first)) (phrases-meant others) ∙ ap terms_of b.meant;
      leads = record {
        by = λ s f.
            leads-then r (maybe_arguments s ∷ []) (arguments (deeper s)) [] at (at + 1) next
            (open-leads r at names level s t f n h low) (b.leads.by (deeper s) (Suits-deeper r names level deep s f e));
        onward = omega (arith, b.leads.onward);
      };
    }

pub arguments-halted :
    (r : Reader) (names : List Name) (level deep at : ℕ) (t : Lexeme) (halt : Halt)
    → IsNext r at t → is_mark (codes "(") t ≡ true → deep ≡ level + 1 → level < r.limit
    → Halts r arguments names deep (at + 1) halt → Halts r (one maybe_arguments) names level at halt
arguments-halted r names level deep at t halt n h e low b =
    record {
      by = λ s f.
          ends-after r (maybe_arguments s ∷ []) (arguments (deeper s)) at (at + 1) halt
          (open-leads r at names level s t f n h low) (b.by (deeper s) (Suits-deeper r names level deep s f e));
    }

pub arguments-too_deep :
    (r : Reader) (names : List Name) (level at : ℕ) (t : Lexeme) (halt : Halt)
    → IsNext r at t → is_mark (codes "(") t ≡ true → halt ≡ At Nesting at → r.limit ≤ level
    → Halts r (one maybe_arguments) names level at halt
arguments-too_deep r names level at t halt n h e high =
    record { by = λ s f. halt-is r (maybe_arguments s ∷ []) at halt (At Nesting at) e (open-ends r at names level s t f n h high) }

-- ---- terms between commas

pub terms-first :
    (r : Reader) (names : List Name) (level at next : ℕ) (v : TermTree) (old new : List TermTree)
    → ReadsTerm r names level at next v → old ≡ [] → new ≡ old ++ v ∷ []
    → SoFar term_lexemes term_meant (lexeme Mark (codes ",")) r arguments (one more_arguments) names level at next [] new
terms-first r names level at next v old new h e g =
    sofar-first term_lexemes term_meant (lexeme Mark (codes ",")) r a_term more_arguments names level at next v [] new h
    (g ∙ ap (λ vs. vs ++ v ∷ []) e)

pub terms-more :
    (r : Reader) (names : List Name) (level at next after : ℕ) (v : TermTree) (values new : List TermTree) (t : Lexeme)
    → SoFar term_lexemes term_meant (lexeme Mark (codes ",")) r arguments (one more_arguments) names level at next [] values
    → IsNext r next t → is_mark (codes ",") t ≡ true
    → ReadsTerm r names level (next + 1) after v → new ≡ values ++ v ∷ []
    → SoFar term_lexemes term_meant (lexeme Mark (codes ",")) r arguments (one more_arguments) names level at after [] new
terms-more r names level at next after v values new t g n h k e =
    sofar-more term_lexemes term_meant (lexeme Mark (codes ",")) r arguments a_term more_arguments names level at next after v [] values new
    g (next-mark r next (codes ",") t n h) (λ s f. more-comma r next s t n h) k e

pub terms-closed :
    (r : Reader) (names : List Name) (level at next : ℕ) (values : List TermTree) (t : Lexeme)
    → SoFar term_lexemes term_meant (lexeme Mark (codes ",")) r arguments (one more_arguments) names level at next [] values
    → IsNext r next t → is_mark (codes ")") t ≡ true
    → ReadsBracketed r names level at (next + 1) values
terms-closed r names level at next values t g n h =
    sofar-closed term_lexemes term_meant (lexeme Mark (codes ",")) (lexeme Mark (codes ")")) r arguments more_arguments names level at next [] values
    g (next-mark r next (codes ")") t n h) (λ s f. more-closed r next s t n (mark-is (codes ")") t h))

pub terms-refused :
    (r : Reader) (names : List Name) (level at next : ℕ) (values : List TermTree) (t : Lexeme)
    → SoFar term_lexemes term_meant (lexeme Mark (codes ",")) r arguments (one more_arguments) names level at next [] values
    → IsNext r next t → is_mark (codes ")") t ≡ false → is_mark (codes ",") t ≡ false
    → Halts r arguments names level at (At Syntax next)
terms-refused r names level at next values t g n h k =
    sofar-halts term_lexemes term_meant (lexeme Mark (codes ",")) r arguments more_arguments names level at next [] values (At Syntax next)
    g (λ s f. more-ends r next s t n h k)

pub terms-cut_off :
    (r : Reader) (names : List Name) (level at next : ℕ) (values : List TermTree) (halt : Halt)
    → SoFar term_lexemes term_meant (lexeme Mark (codes ",")) r arguments (one more_arguments) names level at next [] values
    → ((x : Symbol) → Ends r (x ∷ []) next halt)
    → Halts r arguments names level at halt
terms-cut_off r names level at next values halt g ends =
    sofar-halts term_lexemes term_meant (lexeme Mark (codes ",")) r arguments more_arguments names level at next [] values halt
    g (λ s f. ends (more_arguments s))

pub terms-halted :
    (r : Reader) (names : List Name) (level at next : ℕ) (values : List TermTree) (t : Lexeme) (halt : Halt)
    → SoFar term_lexemes term_meant (lexeme Mark (codes ",")) r arguments (one more_arguments) names level at next [] values
    → IsNext r next t → is_mark (codes ",") t ≡ true
    → Halts r (one a_term) names level (next + 1) halt
    → Halts r arguments names level at halt
terms-halted r names level at next values t halt g n h k =
    sofar-item-halts term_lexemes term_meant (lexeme Mark (codes ",")) r arguments a_term more_arguments names level at next [] values halt
    g (λ s f. more-comma r next s t n h) k

-- ---- terms

pub word-read :
    (r : Reader) (names : List Name) (level at next : ℕ) (t : Lexeme) (name : List ℕ) (ts : TermTrees)
    → IsNext r at t → is_word t.kind ≡ true → name ≡ name_of (word_of t.kind t.bytes)
    → ReadsArguments r names level (at + 1) next ts → ReadsTerm r names level at next (application name ts)
word-read r names level at next t name ts n h e k =
    record {
      phrase = word_with (word_of t.kind t.bytes) k.phrase;
      spelled =
          n.here ∙ ap (λ u. u ∷ drop (at + 1) (lexemes r)) (sym (word-spelled t.kind t.bytes h))
          ∙ ap (λ us. word_lexeme (word_of t.kind t.bytes) ∷ us) k.spelled;
      meant = ap₂ application (sym e) k.meant;
      leads = record {
        by = λ s f.
            leads-then r (a_term s ∷ []) (maybe_arguments s ∷ []) [] at (at + 1) next
            (word-leads r at s t n h) (k.leads.by s f);
        onward = omega (arith, k.leads.onward);
      };
    }

pub word-halted :
    (r : Reader) (names : List Name) (level at : ℕ) (t : Lexeme) (halt : Halt)
    → IsNext r at t → is_word t.kind ≡ true
    → Halts r (one maybe_arguments) names level (at + 1) halt → Halts r (one a_term) names level at halt
word-halted r names level at t halt n h k =
    record {
      by = λ s f.
          ends-after r (a_term s ∷ []) (maybe_arguments s ∷ []) at (at + 1) halt (word-leads r at s t n h) (k.by s f);
    }

pub variable-read :
    (r : Reader) (names : List Name) (level at : ℕ) (t : Lexeme) (name : List ℕ)
    → IsNext r at t → is_variable t.kind ≡ true → is_free_among r.closed names t.bytes ≡ false → name ≡ t.bytes
    → ReadsTerm r names level at (at + 1) (variable name)
variable-read r names level at t name n h k e =
    record {
      phrase = variable_word t.bytes;
      spelled = n.here ∙ ap (λ u. u ∷ drop (at + 1) (lexemes r)) (variable-spelled t.kind t.bytes h);
      meant = ap variable (sym e);
      leads = record { by = λ s f. variable-leads r at names level s t f n h k; onward = omega arith };
    }

pub variable-halted :
    (r : Reader) (names : List Name) (level at : ℕ) (t : Lexeme)
    → IsNext r at t → is_variable t.kind ≡ true → is_free_among r.closed names t.bytes ≡ true
    → Halts r (one a_term) names level at (At FreeVariable at)
variable-halted r names level at t n h k = record { by = λ s f. variable-ends r at names level s t f n h k }

pub other-halted :
    (r : Reader) (names : List Name) (level at : ℕ) (t : Lexeme)
    → IsNext r at t → is_word t.kind ≡ false → is_variable t.kind ≡ false
    → Halts r (one a_term) names level at (At (term_refusal t.kind t.bytes) at)
other-halted r names level at t n h k = record { by = λ s f. other-ends r at s t n h k }
