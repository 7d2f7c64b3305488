-- Each step of the machine on terms and atoms is right.
use Rattle.std.proofs.Common.{◌≡◌, ◌⊎◌, inl, inr, ℕ, Bool, true, false, List, [], ◌∷◌, codes, refl, ap, ap₂, ◌∙◌}
use Rattle.std.specs.Prelude.{if◌then◌else◌}
use Rattle.tptp_token.specs.Lexemes.{Lexeme, lexeme, word_lexeme, is_mark, is_connective}
use Rattle.tptp_token.specs.declared.token.Kind.{Kind}
use Rattle.tptp_token.specs.declared.token.Kind.TheVariants.{Lower, Variable, Quoted, Distinct, Dollar, Number, Connective, Mark, Other}
use Rattle.tptp_token.specs.Words.{Word, bare, quoted}
use Rattle.tptp_tree.specs.Spelling.{TermPhrase, variable_word, word_with, TermPhrases, no_phrases, phrase_then, term_lexemes, arguments_lexemes, more_arguments_lexemes, true_atom, false_atom, predicate_atom, equation_atom, equals_lexeme, atom_lexemes}
use Rattle.tptp_tree.specs.Entries.{plain_true, plain_false, plain_predicate, plain_equation}
use Rattle.tptp_tree.specs.Causes.{Surroundings, deeper, begun, syntax, left_out, dollar_form}
use Rattle.tptp_reader.specs.Machine.{Symbol, a_term, maybe_arguments, more_arguments, an_atom, maybe_applied, maybe_equation, an_equation, Step, takes, passes, stops, taken, arguments, step, term_step, atom_step, equation_step, is_sign_of_equation, is_truth_word}
use Rattle.tptp_reader.proofs.AboutTexts.Spelled.{SignFor, sign_for, AtomFor, atom_for, EquationEnd, no_equation, equation_with, equation_lexemes, Spells, SpellAll, IsStepOf}
use Rattle.tptp_reader.proofs.AboutTexts.TokenTests.{choose, mark-same, connective-same, truth-same}
use Rattle.list_lemmas.proofs.Bools.{or-false-true, or-either}

pub term-right : (s : Surroundings) (k : Kind) (bytes : List ℕ) → IsStepOf (a_term s) (lexeme k bytes) (term_step s k bytes)
term-right s Lower bytes = λ ts rest h. (word_with (bare bytes) h.1.0, ap (λ xs. lexeme Lower bytes ∷ xs) (h.1.1 ∙ ap (arguments_lexemes h.1.0) h.2))
term-right s Variable bytes = λ ts rest h. (variable_word bytes, ap (λ xs. lexeme Variable bytes ∷ xs) h)
term-right s Quoted bytes = λ ts rest h. (word_with (quoted bytes) h.1.0, ap (λ xs. lexeme Quoted bytes ∷ xs) (h.1.1 ∙ ap (arguments_lexemes h.1.0) h.2))
term-right s Distinct bytes = tt
term-right s Dollar bytes = tt
term-right s Number bytes = tt
term-right s Connective bytes = tt
term-right s Mark bytes = tt
term-right s Other bytes = tt

-- an argument and those behind it
two-arguments :
    (s : Surroundings) (ts rest : List Lexeme) → SpellAll (arguments s) ts rest
    → (t : TermPhrase) × (us : TermPhrases) × (ts ≡ term_lexemes t (more_arguments_lexemes us rest))
two-arguments s ts rest h = (h.1.0, h.2.1.0, h.1.1 ∙ ap (term_lexemes h.1.0) (h.2.1.1 ∙ ap (more_arguments_lexemes h.2.1.0) h.2.2))

pub arguments-right : (s : Surroundings) (t : Lexeme) → IsStepOf (maybe_arguments s) t (step (maybe_arguments s) t)
arguments-right s t =
    choose (IsStepOf (maybe_arguments s) t) (is_mark (codes "(") t) (takes (arguments (deeper s)) (begun s)) passes
    (λ e ts rest h. let m = two-arguments (deeper s) ts rest h in (phrase_then m.0 m.1, ap₂ (λ x xs. x ∷ xs) (mark-same (codes "(") t e) m.2))
    (λ e ts. (no_phrases, refl))

pub more_arguments-right : (s : Surroundings) (t : Lexeme) → IsStepOf (more_arguments s) t (step (more_arguments s) t)
more_arguments-right s t =
    choose (IsStepOf (more_arguments s) t) (is_mark (codes ",") t) (taken (arguments s)) (if is_mark (codes ")") t then taken [] else stops syntax)
    (λ e ts rest h. let m = two-arguments s ts rest h in (phrase_then m.0 m.1, ap₂ (λ x xs. x ∷ xs) (mark-same (codes ",") t e) m.2))
    (λ e. choose (IsStepOf (more_arguments s) t) (is_mark (codes ")") t) (taken []) (stops syntax)
    (λ f ts rest h. (no_phrases, ap₂ (λ x xs. x ∷ xs) (mark-same (codes ")") t f) h)) (λ f. tt))

-- ---- atoms

sign-same : (b : Bool) (t : Lexeme) → is_sign_of_equation b t ≡ true → (sign : SignFor b) × (t ≡ equals_lexeme (sign_for b sign))
sign-same true t h = by (or-either (is_connective (codes "=") t) (is_connective (codes "!=") t) h)
  where
    by : (is_connective (codes "=") t ≡ true) ⊎ (is_connective (codes "!=") t ≡ true) → (sign : Bool) × (t ≡ equals_lexeme sign)
    by (inl e) = (true, connective-same (codes "=") t e)
    by (inr e) = (false, connective-same (codes "!=") t e)
sign-same false t h = (tt, connective-same (codes "=") t (or-false-true (is_connective (codes "=") t) h))

-- the right side behind a sign
right-side :
    (b : Bool) (s : Surroundings) (t : Lexeme) → is_sign_of_equation b t ≡ true → (ts rest : List Lexeme) → SpellAll (a_term s ∷ []) ts rest
    → (sign : SignFor b) × (u : TermPhrase) × (t ∷ ts ≡ equals_lexeme (sign_for b sign) ∷ term_lexemes u rest)
right-side b s t e ts rest h =
    let sign = sign-same b t e in (sign.0, h.1.0, ap₂ (λ x xs. x ∷ xs) sign.1 (h.1.1 ∙ ap (term_lexemes h.1.0) h.2))

pub equation-right : (b : Bool) (s : Surroundings) (t : Lexeme) → IsStepOf (maybe_equation b s) t (step (maybe_equation b s) t)
equation-right b s t =
    choose (IsStepOf (maybe_equation b s) t) (is_sign_of_equation b t) (taken (a_term s ∷ [])) passes
    (λ e ts rest h. let r = right-side b s t e ts rest h in (equation_with r.0 r.1, r.2)) (λ e ts. (no_equation, refl))

pub sign-right : (b : Bool) (s : Surroundings) (t : Lexeme) → IsStepOf (an_equation b s) t (step (an_equation b s) t)
sign-right b s t =
    choose (IsStepOf (an_equation b s) t) (is_sign_of_equation b t) (taken (a_term s ∷ [])) (stops syntax)
    (λ e ts rest h. right-side b s t e ts rest h) (λ e. tt)

pub applied-right : (b : Bool) (s : Surroundings) (t : Lexeme) → IsStepOf (maybe_applied b s) t (step (maybe_applied b s) t)
applied-right b s t =
    choose (IsStepOf (maybe_applied b s) t) (is_mark (codes "(") t)
    (takes (a_term (deeper s) ∷ more_arguments (deeper s) ∷ maybe_equation b s ∷ []) (begun s)) (equation_step b s passes t)
    (λ e ts rest h. (
      phrase_then h.1.0 h.2.1.0,
      h.2.2.1.0,
      ap₂ (λ x xs. x ∷ xs) (mark-same (codes "(") t e)
          (h.1.1 ∙ ap (term_lexemes h.1.0) (h.2.1.1 ∙ ap (more_arguments_lexemes h.2.1.0) (h.2.2.1.1 ∙ ap (equation_lexemes b h.2.2.1.0) h.2.2.2))),
    ))
    (λ e. choose (IsStepOf (maybe_applied b s) t) (is_sign_of_equation b t) (taken (a_term s ∷ [])) passes
    (λ f ts rest h. let r = right-side b s t f ts rest h in (no_phrases, equation_with r.0 r.1, r.2)) (λ f ts. (no_phrases, no_equation, refl)))

applied_atom : (b : Bool) → Word → TermPhrases → EquationEnd b → AtomFor b
applied_atom true w us no_equation = predicate_atom w us
applied_atom true w us (equation_with sign t) = equation_atom sign (word_with w us) t
applied_atom false w us no_equation = plain_predicate w us
applied_atom false w us (equation_with sign t) = plain_equation (word_with w us) t

applied-lexemes :
    (b : Bool) (w : Word) (us : TermPhrases) (e : EquationEnd b) (rest : List Lexeme)
    → word_lexeme w ∷ arguments_lexemes us (equation_lexemes b e rest) ≡ atom_lexemes (atom_for b (applied_atom b w us e)) rest
unfolding applied_atom
applied-lexemes true w us no_equation rest = refl
applied-lexemes true w us (equation_with sign t) rest = refl
applied-lexemes false w us no_equation rest = refl
applied-lexemes false w us (equation_with sign t) rest = refl

-- behind a word
word-atom :
    (b : Bool) (s : Surroundings) (w : Word) (ts rest : List Lexeme) → SpellAll (maybe_applied b s ∷ []) ts rest
    → (a : AtomFor b) × (word_lexeme w ∷ ts ≡ atom_lexemes (atom_for b a) rest)
word-atom b s w ts rest h = (
  applied_atom b w h.1.0 h.1.1,
  ap (λ xs. word_lexeme w ∷ xs) (h.1.2 ∙ ap (λ xs. arguments_lexemes h.1.0 (equation_lexemes b h.1.1 xs)) h.2)
      ∙ applied-lexemes b w h.1.0 h.1.1 rest,
)

variable-atom :
    (b : Bool) (s : Surroundings) (x : List ℕ) (ts rest : List Lexeme) → SpellAll (an_equation b s ∷ []) ts rest
    → (a : AtomFor b) × (lexeme Variable x ∷ ts ≡ atom_lexemes (atom_for b a) rest)
variable-atom true s x ts rest h = (
  equation_atom h.1.0 (variable_word x) h.1.1,
  ap (λ xs. lexeme Variable x ∷ xs) (h.1.2 ∙ ap (λ xs. equals_lexeme h.1.0 ∷ term_lexemes h.1.1 xs) h.2),
)
variable-atom false s x ts rest h = (
  plain_equation (variable_word x) h.1.1,
  ap (λ xs. lexeme Variable x ∷ xs) (h.1.2 ∙ ap (λ xs. equals_lexeme true ∷ term_lexemes h.1.1 xs) h.2),
)

truth-atom :
    (b : Bool) (bytes : List ℕ) (ts rest : List Lexeme) → is_truth_word bytes ≡ true → ts ≡ rest
    → (a : AtomFor b) × (lexeme Dollar bytes ∷ ts ≡ atom_lexemes (atom_for b a) rest)
truth-atom b bytes ts rest h e = by b (truth-same bytes h)
  where
    by : (b : Bool) → (bytes ≡ codes "$true") ⊎ (bytes ≡ codes "$false") → (a : AtomFor b) × (lexeme Dollar bytes ∷ ts ≡ atom_lexemes (atom_for b a) rest)
    by true (inl f) = (true_atom, ap₂ (λ x xs. lexeme Dollar x ∷ xs) f e)
    by true (inr f) = (false_atom, ap₂ (λ x xs. lexeme Dollar x ∷ xs) f e)
    by false (inl f) = (plain_true, ap₂ (λ x xs. lexeme Dollar x ∷ xs) f e)
    by false (inr f) = (plain_false, ap₂ (λ x xs. lexeme Dollar x ∷ xs) f e)

pub atom-right : (b : Bool) (s : Surroundings) (k : Kind) (bytes : List ℕ) → IsStepOf (an_atom b s) (lexeme k bytes) (atom_step b s k bytes)
atom-right b s Lower bytes = λ ts rest h. word-atom b s (bare bytes) ts rest h
atom-right b s Variable bytes = λ ts rest h. variable-atom b s bytes ts rest h
atom-right b s Quoted bytes = λ ts rest h. word-atom b s (quoted bytes) ts rest h
atom-right b s Distinct bytes = tt
atom-right b s Dollar bytes =
    choose (IsStepOf (an_atom b s) (lexeme Dollar bytes)) (is_truth_word bytes) (taken []) (stops (left_out dollar_form))
    (λ e ts rest h. truth-atom b bytes ts rest e h) (λ e. tt)
atom-right b s Number bytes = tt
atom-right b s Connective bytes = tt
atom-right b s Mark bytes = tt
atom-right b s Other bytes = tt

-- what spells as one symbol does steps as that symbol does
pub mapped :
    (a b : Symbol) (t : Lexeme) (x : Step) → ((ts rest : List Lexeme) → Spells a ts rest → Spells b ts rest) → IsStepOf a t x → IsStepOf b t x
mapped a b t (takes new cause) f h = λ ts rest g. f (t ∷ ts) rest (h ts rest g)
mapped a b t passes f h = λ ts. f ts ts (h ts)
mapped a b t (stops refusal) f h = tt
