-- What symbols do with tokens: marks and terms.
use Rattle.std.proofs.Common.{◌≡◌, ◌<◌, ◌≤◌, ℕ, ◌+◌, Bool, true, false, List, [], ◌∷◌, codes, None, if◌then◌else◌, refl, ap, ◌∙◌}
use Rattle.tptp_token.specs.Lexemes.{Lexeme, is_mark, lexeme, word_lexeme}
use Rattle.tptp_token.specs.declared.token.Kind.{Kind}
use Rattle.tptp_token.specs.declared.token.Kind.TheVariants.{Lower, Variable, Quoted, Distinct, Dollar, Number, Connective, Mark, Other}
use Rattle.tptp_tree.specs.Causes.{syntax, left_out, dollar_form, Surroundings, deeper, variable_cause}
use Rattle.tptp_reader.specs.Machine.{mark, a_term, maybe_arguments, more_arguments, arguments, is_truth_word, Step, takes, stops, step}
use Rattle.tptp_token.specs.Words.{is_word, word_of, is_variable}
use Rattle.tptp_reader.specs.Telling.{IsNext, Leads, Ends, Suits, is_free_among, free_cause, term_refusal, refusal_of}
use Rattle.tptp_reader.specs.declared.source.Reader.{Reader}
use Rattle.tptp_reader.specs.declared.source.Name.{Name}
use Rattle.tptp_reader.specs.declared.cause.Halt.TheVariants.{At}
use Rattle.tptp_reader.specs.declared.cause.Refusal.TheVariants.{Syntax, FreeVariable, Nesting, Inappropriate}
use Rattle.tptp_reader.specs.declared.cause.Form.TheVariants.{Dollar as DollarForm}
use Rattle.tptp_reader.proofs.AboutTexts.TellingLemmas.{takes-leads, fault-ends, stop-ends, passes-leads, begun-none, begun-deep}

-- ---- marks

pub mark-leads :
    (r : Reader) (at : ℕ) (bytes : List ℕ) (t : Lexeme)
    → IsNext r at t → is_mark bytes t ≡ true → Leads r (mark bytes ∷ []) at [] (at + 1)
mark-leads r at bytes t n h = takes-leads r at (mark bytes) t [] n (rw h refl)

pub mark-ends :
    (r : Reader) (at : ℕ) (bytes : List ℕ) (t : Lexeme)
    → IsNext r at t → is_mark bytes t ≡ false → Ends r (mark bytes ∷ []) at (At Syntax at)
mark-ends r at bytes t n h = stop-ends r at (mark bytes) t Syntax n (rw h refl)

-- ---- terms

pub word-spelled : (k : Kind) (bytes : List ℕ) → is_word k ≡ true → word_lexeme (word_of k bytes) ≡ lexeme k bytes
word-spelled Lower bytes h = refl
word-spelled Variable bytes h = cc
word-spelled Quoted bytes h = refl
word-spelled Distinct bytes h = cc
word-spelled Dollar bytes h = cc
word-spelled Number bytes h = cc
word-spelled Connective bytes h = cc
word-spelled Mark bytes h = cc
word-spelled Other bytes h = cc

word-step : (s : Surroundings) (k : Kind) (bytes : List ℕ) → is_word k ≡ true → step (a_term s) (lexeme k bytes) ≡ takes (maybe_arguments s ∷ []) None
word-step s Lower bytes h = refl
word-step s Variable bytes h = cc
word-step s Quoted bytes h = refl
word-step s Distinct bytes h = cc
word-step s Dollar bytes h = cc
word-step s Number bytes h = cc
word-step s Connective bytes h = cc
word-step s Mark bytes h = cc
word-step s Other bytes h = cc

pub word-leads :
    (r : Reader) (at : ℕ) (s : Surroundings) (t : Lexeme)
    → IsNext r at t → is_word t.kind ≡ true → Leads r (a_term s ∷ []) at (maybe_arguments s ∷ []) (at + 1)
word-leads r at s t n h = takes-leads r at (a_term s) t (maybe_arguments s ∷ []) n (word-step s t.kind t.bytes h)

pub variable-kind : (k : Kind) → is_variable k ≡ true → k ≡ Variable
variable-kind Lower h = cc
variable-kind Variable h = refl
variable-kind Quoted h = cc
variable-kind Distinct h = cc
variable-kind Dollar h = cc
variable-kind Number h = cc
variable-kind Connective h = cc
variable-kind Mark h = cc
variable-kind Other h = cc

pub variable-spelled : (k : Kind) (bytes : List ℕ) → is_variable k ≡ true → lexeme k bytes ≡ lexeme Variable bytes
variable-spelled k bytes h = ap (λ j. lexeme j bytes) (variable-kind k h)

-- the cause of a variable, by the names that are bound
pub cause-among :
    (r : Reader) (names : List Name) (level : ℕ) (s : Surroundings) (x : List ℕ) (b : Bool)
    → Suits r names level s → is_free_among r.closed names x ≡ b → variable_cause s.scope x ≡ free_cause b
cause-among r names level s x b f e = f.scope_is x ∙ ap free_cause e

pub variable-leads :
    (r : Reader) (at : ℕ) (names : List Name) (level : ℕ) (s : Surroundings) (t : Lexeme)
    → Suits r names level s → IsNext r at t → is_variable t.kind ≡ true → is_free_among r.closed names t.bytes ≡ false
    → Leads r (a_term s ∷ []) at [] (at + 1)
variable-leads r at names level s t f n h e =
    takes-leads r at (a_term s) t [] n
    (ap (step (a_term s)) (variable-spelled t.kind t.bytes h)
    ∙ ap (takes []) (cause-among r names level s t.bytes false f e))

pub variable-ends :
    (r : Reader) (at : ℕ) (names : List Name) (level : ℕ) (s : Surroundings) (t : Lexeme)
    → Suits r names level s → IsNext r at t → is_variable t.kind ≡ true → is_free_among r.closed names t.bytes ≡ true
    → Ends r (a_term s ∷ []) at (At FreeVariable at)
variable-ends r at names level s t f n h e =
    fault-ends r at (a_term s) t [] FreeVariable n
    (ap (step (a_term s)) (variable-spelled t.kind t.bytes h)
    ∙ ap (takes []) (cause-among r names level s t.bytes true f e))

dollar-refused :
    (b : Bool)
    → (let u : Step = stops (if b then syntax else left_out dollar_form) in u)
    ≡ stops (refusal_of (if b then Syntax else Inappropriate DollarForm))
dollar-refused true = refl
dollar-refused false = refl

other-step :
    (s : Surroundings) (k : Kind) (bytes : List ℕ) → is_word k ≡ false → is_variable k ≡ false
    → step (a_term s) (lexeme k bytes) ≡ stops (refusal_of (term_refusal k bytes))
other-step s Lower bytes h g = cc
other-step s Variable bytes h g = cc
other-step s Quoted bytes h g = cc
other-step s Distinct bytes h g = refl
other-step s Dollar bytes h g = dollar-refused (is_truth_word bytes)
other-step s Number bytes h g = refl
other-step s Connective bytes h g = refl
other-step s Mark bytes h g = refl
other-step s Other bytes h g = refl

pub other-ends :
    (r : Reader) (at : ℕ) (s : Surroundings) (t : Lexeme)
    → IsNext r at t → is_word t.kind ≡ false → is_variable t.kind ≡ false
    → Ends r (a_term s ∷ []) at (At (term_refusal t.kind t.bytes) at)
other-ends r at s t n h g = stop-ends r at (a_term s) t (term_refusal t.kind t.bytes) n (other-step s t.kind t.bytes h g)

pub open-leads :
    (r : Reader) (at : ℕ) (names : List Name) (level : ℕ) (s : Surroundings) (t : Lexeme)
    → Suits r names level s → IsNext r at t → is_mark (codes "(") t ≡ true → level < r.limit
    → Leads r (maybe_arguments s ∷ []) at (arguments (deeper s)) (at + 1)
open-leads r at names level s t f n h low =
    takes-leads r at (maybe_arguments s) t (arguments (deeper s)) n
    (rw h (ap (takes (arguments (deeper s))) (begun-none r names level s f low)))

pub open-ends :
    (r : Reader) (at : ℕ) (names : List Name) (level : ℕ) (s : Surroundings) (t : Lexeme)
    → Suits r names level s → IsNext r at t → is_mark (codes "(") t ≡ true → r.limit ≤ level
    → Ends r (maybe_arguments s ∷ []) at (At Nesting at)
open-ends r at names level s t f n h high =
    fault-ends r at (maybe_arguments s) t (arguments (deeper s)) Nesting n
    (rw h (ap (takes (arguments (deeper s))) (begun-deep r names level s f high)))

pub none-leads :
    (r : Reader) (at : ℕ) (s : Surroundings) (t : Lexeme)
    → IsNext r at t → is_mark (codes "(") t ≡ false → Leads r (maybe_arguments s ∷ []) at [] at
none-leads r at s t n h = passes-leads r at (maybe_arguments s) t n (rw h refl)

pub more-closed :
    (r : Reader) (at : ℕ) (s : Surroundings) (t : Lexeme)
    → IsNext r at t → t ≡ lexeme Mark (codes ")") → Leads r (more_arguments s ∷ []) at [] (at + 1)
more-closed r at s t n h = takes-leads r at (more_arguments s) t [] n (ap (step (more_arguments s)) h)

pub more-comma :
    (r : Reader) (at : ℕ) (s : Surroundings) (t : Lexeme)
    → IsNext r at t → is_mark (codes ",") t ≡ true → Leads r (more_arguments s ∷ []) at (arguments s) (at + 1)
more-comma r at s t n h = takes-leads r at (more_arguments s) t (arguments s) n (rw h refl)

pub more-ends :
    (r : Reader) (at : ℕ) (s : Surroundings) (t : Lexeme)
    → IsNext r at t → is_mark (codes ")") t ≡ false → is_mark (codes ",") t ≡ false
    → Ends r (more_arguments s ∷ []) at (At Syntax at)
more-ends r at s t n g h = stop-ends r at (more_arguments s) t Syntax n (rw (h, g) refl)
