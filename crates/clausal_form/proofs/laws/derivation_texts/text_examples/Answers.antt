use Rattle.std.proofs.Common.{◌≡◌, ℕ, sym, true, false, List, [], ◌∷◌, Option, Some, None, refl, inl, inr, codes, ap}
use Rattle.std.specs.Prelude.{is_none}
use Rattle.std.specs.List.{list_all, AllByRecursion}
use Rattle.std.proofs.lemmas.Option.{none-some}
use Rattle.tptp_token.specs.Longest.{longest}
use Rattle.tptp_token.specs.Kinds.{is_token, kind_of}
use Rattle.tptp_token.specs.Pieces.{line_length, block_end, fills, piece_of}
use Rattle.tptp_token.specs.Lexing.{lexed_from, lexed_of}
use Rattle.tptp_token.specs.Lexemes.{Lexeme, lexeme}
use Rattle.tptp_token.specs.Words.{Word, bare, quoted}
use Rattle.tptp_token.specs.declared.token.Kind.{Kind}
use Rattle.tptp_token.specs.declared.token.Kind.TheVariants.{Lower, Mark}
use Rattle.tptp_tree.specs.Spelling.{false_atom}
use Rattle.tptp_tree.specs.Entries.{AnnotatedPhrase, annotated_lexemes, word_name, positive_literal, literals, clause_body}
use Rattle.tptp_tree.specs.Causes.{Refusal, annotated_causes}
use Rattle.tptp_tree.specs.declared.limits.TheConstants.{MOST_DERIVATION_NESTING}
use Rattle.tptp_source.specs.declared.sign.NumberSign.TheVariants.{Unsigned}
use Rattle.tptp_source.specs.General.{word, no_trees}
use Rattle.tptp_source.specs.Spelling.{word_part, number_part, list_part, no_parts, GeneralPhrase, parts, GeneralPhrases, no_phrases, phrase_then, general_lexemes}
use Rattle.kernel_steps.specs.Conclusion.{empty_clause}
use Rattle.kernel_steps.specs.declared.step.Step.TheVariants.{Input, Clausify}
use Rattle.clausal_form.specs.DerivationLine.{Taken, nothing_taken}
use Rattle.kernel_steps.specs.FromTrees.{line_of}
use Rattle.clausal_form.specs.DerivationTexts.{AreLinesOf, phrases_lexemes, SpellsDerivation, NoLineBegins}
use Rattle.clausal_form.specs.DerivationExamples.{falsum_text, falsum_lines}
use Rattle.clausal_form.proofs.laws.derivation_texts.text_examples.Goals as goal

all-none : (cs : List (Option Refusal)) → list_all is_none cs ≡ true → AllByRecursion (λ (c : Option Refusal). c ≡ None) cs
all-none [] h = tt
all-none (None ∷ cs) h = (refl, all-none cs h)
all-none (Some c ∷ cs) h = absurd (let e : false ≡ true = h in cc)

faultless_line :
    (p : AnnotatedPhrase) → list_all is_none (annotated_causes MOST_DERIVATION_NESTING p) ≡ true
    → AllByRecursion (λ (c : Option Refusal). c ≡ None) (annotated_causes MOST_DERIVATION_NESTING p)
faultless_line p h = all-none (annotated_causes MOST_DERIVATION_NESTING p) h

-- ---- the phrases of the two lines

term : Word → GeneralPhrases → GeneralPhrase
term w ts = parts (word_part w ts) no_parts

one : GeneralPhrase → GeneralPhrases
one t = phrase_then t no_phrases

list_term : GeneralPhrases → GeneralPhrase
list_term ts = parts (list_part ts) no_parts

file_phrase : GeneralPhrase
file_phrase = term (bare (codes "file")) (phrase_then (term (quoted (codes "'f'")) no_phrases) (one (term (bare (codes "a")) no_phrases)))

clausify_phrase : GeneralPhrase
clausify_phrase =
    term (bare (codes "inference"))
    (phrase_then (term (bare (codes "clausify")) no_phrases)
    (phrase_then
    (list_term
    (phrase_then (term (bare (codes "status")) (one (term (bare (codes "esa")) no_phrases)))
    (one (term (bare (codes "index")) (one (parts (number_part Unsigned (codes "0")) no_parts))))))
    (one (list_term (one (term (quoted (codes "'a'")) no_phrases))))))

line_phrase : List ℕ → List ℕ → GeneralPhrase → AnnotatedPhrase
line_phrase n role source = record {
  name = word_name (bare n);
  role = role;
  body = clause_body (literals (positive_literal false_atom) []);
  notes = general_lexemes source [];
}

two_phrases : List AnnotatedPhrase
two_phrases = line_phrase (codes "a") (codes "axiom") file_phrase ∷ line_phrase (codes "b") (codes "plain") clausify_phrase ∷ []

are_lines : AreLinesOf two_phrases falsum_lines
unfolding all-none term one list_term file_phrase clausify_phrase line_phrase two_phrases
are_lines = (
  record {
    right = refl;
    faultless = faultless_line (line_phrase (codes "a") (codes "axiom") file_phrase) refl;
    entry = record { name = refl; role = refl; is_clause = refl; formula = refl };
    source = record { term = _; spelled = record { phrase = file_phrase; spelled = refl; meant = refl }; shape = (word (codes "a") no_trees, refl, refl) };
  },
  (
    record {
      right = refl;
      faultless = faultless_line (line_phrase (codes "b") (codes "plain") clausify_phrase) refl;
      entry = record { name = refl; role = refl; is_clause = refl; formula = refl };
      source = record { term = _; spelled = record { phrase = clausify_phrase; spelled = refl; meant = refl }; shape = (word (codes "a") no_trees ∷ [], refl, refl) };
    },
    tt,
  ),
)

spells : SpellsDerivation falsum_text falsum_lines
unfolding longest is_token kind_of line_length block_end fills piece_of lexed_from lexed_of term one list_term file_phrase clausify_phrase line_phrase two_phrases
spells = ([], record { phrases = two_phrases; spelled = refl; lines = are_lines }, (refl, refl))

-- the two lines as they are taken
two_taken : Taken
two_taken = record {
  lines =
      record { name = codes "a"; line = line_of (Input 0) empty_clause }
      ∷ record { name = codes "b"; line = line_of (Clausify 0) empty_clause } ∷ [];
  introduced = [];
}

-- ---- where no line begins

begins-none :
    (tokens : List Lexeme) → ((p : AnnotatedPhrase) (rest : List Lexeme) → tokens ≡ annotated_lexemes p rest → ⊥) → NoLineBegins tokens
begins-none tokens none t more h = by h.phrases h.spelled h.lines
  where
    by : (ps : List AnnotatedPhrase) → tokens ≡ phrases_lexemes ps more → AreLinesOf ps (t ∷ []) → ⊥
    by [] e l = l
    by (p ∷ ps) e l = none p (phrases_lexemes ps more) e

mark-none : (bytes : List ℕ) (ts : List Lexeme) (p : AnnotatedPhrase) (rest : List Lexeme) → lexeme Mark bytes ∷ ts ≡ annotated_lexemes p rest → ⊥
mark-none bytes ts p rest e =
    let heads : Mark ≡ Lower = ap (λ (ls : List Lexeme). kind_or ls) e in cc
  where
    kind_or : List Lexeme → Kind
    kind_or [] = Mark
    kind_or (l ∷ ls) = l.kind

pub returns : goal.returns
unfolding longest is_token kind_of line_length block_end fills piece_of lexed_from lexed_of term one list_term file_phrase clausify_phrase line_phrase two_phrases two_taken
returns c = record {
  spelled = spells;
  accepted = (falsum_lines, spells, refl);
  no_lines = record {
    before = [];
    rest = [];
    spelled = record { phrases = []; spelled = refl; lines = tt };
    taken = nothing_taken;
    all_before = refl;
    wrong = inl ((refl, refl), refl);
  };
  no_line = record {
    before = [];
    rest = lexeme Mark (codes ".") ∷ [];
    spelled = record { phrases = []; spelled = refl; lines = tt };
    taken = nothing_taken;
    all_before = refl;
    wrong = inr (inl (λ end. (let e : lexeme Mark (codes ".") ∷ [] ≡ [] = end.0 in cc), begins-none _ (mark-none (codes ".") []), refl, refl));
  };
  third_line = record {
    before = falsum_lines;
    rest = lexeme Mark (codes ".") ∷ [];
    spelled = record { phrases = two_phrases; spelled = refl; lines = are_lines };
    taken = two_taken;
    all_before = refl;
    wrong = inr (inl (λ end. (let e : lexeme Mark (codes ".") ∷ [] ≡ [] = end.0 in cc), begins-none _ (mark-none (codes ".") []), refl, refl));
  };
  bad_byte = record {
    before = [];
    rest = [];
    spelled = record { phrases = []; spelled = refl; lines = tt };
    taken = nothing_taken;
    all_before = refl;
    wrong = inr (inl (λ end. none-some _ (sym end.1), begins-none [] (λ p rest e. cc), refl, refl));
  };
}
