-- What the symbols of atoms do with tokens.
use Rattle.std.proofs.Common.{◌≡◌, ℕ, zero, suc, ◌+◌, ◌==◌, Bool, true, false, ◌&&◌, ◌||◌, List, [], ◌∷◌, ◌++◌, drop, codes, bytes_eq, Option, None, Some, if◌then◌else◌, refl, sym, ap, ◌∙◌}
use Rattle.std.proofs.lemmas.Bool.{eqb-true, false≢true}
use Rattle.std.proofs.lemmas.Slice.Eq.{bytes_eq-Decides}
use Rattle.tptp_token.specs.Lexemes.{Lexeme, kind_place, is_lexeme, is_mark, lexeme, is_connective}
use Rattle.tptp_token.specs.declared.token.Kind.{Kind}
use Rattle.tptp_token.specs.declared.token.Kind.TheVariants.{Lower, Variable, Quoted, Distinct, Dollar, Number, Connective, Mark, Other}
use Rattle.tptp_tree.specs.Spelling.{equals_lexeme, TermPhrase, equation_atom}
use Rattle.tptp_tree.specs.Causes.{Refusal, Surroundings, deeper, begun}
use Rattle.tptp_reader.specs.Machine.{Symbol, a_term, maybe_arguments, an_atom, maybe_applied, maybe_equation, an_equation, arguments, is_sign_of_equation, equation_step, is_truth_word, takes, passes, stops, step, stepped, after_token, verdict, going}
use Rattle.tptp_token.specs.Words.{is_word, is_variable}
use Rattle.tptp_reader.specs.Telling.{IsNext, Leads, Ends, Suits, told, lexemes, is_free_among, term_refusal, refusal_of, is_allowed}
use Rattle.tptp_reader.specs.declared.source.Reader.{Reader}
use Rattle.tptp_reader.specs.declared.source.Name.{Name}
use Rattle.tptp_reader.specs.declared.cause.Halt.TheVariants.{At}
use Rattle.tptp_reader.specs.declared.cause.Refusal.TheVariants.{Syntax, FreeVariable}
use Rattle.tptp_reader.proofs.AboutTexts.TellingLemmas.{takes-leads, fault-ends, stop-ends, passes-leads}
use Rattle.tptp_reader.proofs.AboutSteps.StepLemmas.{variable-spelled, cause-among}
use Rattle.list_lemmas.proofs.Lists.{bytes-self}

-- ---- tokens by tests

kind_at : ℕ → Kind
kind_at zero = Lower
kind_at (suc zero) = Variable
kind_at (suc (suc zero)) = Quoted
kind_at (suc (suc (suc zero))) = Distinct
kind_at (suc (suc (suc (suc zero)))) = Dollar
kind_at (suc (suc (suc (suc (suc zero))))) = Number
kind_at (suc (suc (suc (suc (suc (suc zero)))))) = Connective
kind_at (suc (suc (suc (suc (suc (suc (suc zero))))))) = Mark
kind_at (suc (suc (suc (suc (suc (suc (suc (suc n)))))))) = Other

kind_at-place : (k : Kind) → kind_at (kind_place k) ≡ k
unfolding kind_at
kind_at-place Lower = refl
kind_at-place Variable = refl
kind_at-place Quoted = refl
kind_at-place Distinct = refl
kind_at-place Dollar = refl
kind_at-place Number = refl
kind_at-place Connective = refl
kind_at-place Mark = refl
kind_at-place Other = refl

kinds-same : (k j : Kind) → (kind_place k == kind_place j) ≡ true → j ≡ k
kinds-same k j h = sym (kind_at-place j) ∙ ap kind_at (sym (eqb-true (kind_place k) (kind_place j) h)) ∙ kind_at-place k

pub and-true : (a b : Bool) → (a && b) ≡ true → (a ≡ true) × (b ≡ true)
and-true true b h = (refl, h)
and-true false b h = absurd (false≢true h)

pub lexeme-is : (k : Kind) (bytes : List ℕ) (t : Lexeme) → is_lexeme k bytes t ≡ true → t ≡ lexeme k bytes
lexeme-is k bytes t h =
    let both = and-true (kind_place k == kind_place t.kind) (bytes_eq bytes t.bytes) h in
    ap (λ j. lexeme j t.bytes) (kinds-same k t.kind both.0) ∙ ap (lexeme k) (sym ((bytes_eq-Decides bytes t.bytes).0 both.1))

-- a test that fails one way fails the other way
pub bytes_eq-turned : (a b : List ℕ) (v : Bool) → bytes_eq a b ≡ false → bytes_eq b a ≡ v → v ≡ false
bytes_eq-turned a b false h g = refl
bytes_eq-turned a b true h g =
    let same : b ≡ a = (bytes_eq-Decides b a).0 g in
    let yes : bytes_eq a b ≡ true = ap (bytes_eq a) same ∙ bytes-self a in
    absurd (false≢true (sym h ∙ yes))

-- ---- words and variables

word-step : (d : Bool) (s : Surroundings) (k : Kind) (bytes : List ℕ) → is_word k ≡ true → step (an_atom d s) (lexeme k bytes) ≡ takes (maybe_applied d s ∷ []) None
word-step d s Lower bytes h = refl
word-step d s Variable bytes h = cc
word-step d s Quoted bytes h = refl
word-step d s Distinct bytes h = cc
word-step d s Dollar bytes h = cc
word-step d s Number bytes h = cc
word-step d s Connective bytes h = cc
word-step d s Mark bytes h = cc
word-step d s Other bytes h = cc

pub atom_word-leads :
    (r : Reader) (at : ℕ) (d : Bool) (s : Surroundings) (t : Lexeme)
    → IsNext r at t → is_word t.kind ≡ true → Leads r (an_atom d s ∷ []) at (maybe_applied d s ∷ []) (at + 1)
atom_word-leads r at d s t n h = takes-leads r at (an_atom d s) t (maybe_applied d s ∷ []) n (word-step d s t.kind t.bytes h)

applied-opened :
    (i : ℕ) (d : Bool) (s : Surroundings) (below : List Symbol) (t : Lexeme) (ts : List Lexeme) (q : Option Refusal)
    → verdict (suc i) (stepped i below (takes (arguments (deeper s) ++ maybe_equation d s ∷ []) q) (after_token i below t)) ts
    ≡ verdict (suc i) (stepped i (maybe_equation d s ∷ below) (takes (arguments (deeper s)) q) (after_token i (maybe_equation d s ∷ below) t)) ts
applied-opened i d s below t ts None = refl
applied-opened i d s below t ts (Some q) = refl

applied-either :
    (i : ℕ) (d : Bool) (s : Surroundings) (below : List Symbol) (t : Lexeme) (ts : List Lexeme) (b : Bool)
    → verdict (suc i)
    (stepped i below (if b then takes (arguments (deeper s) ++ maybe_equation d s ∷ []) (begun s) else equation_step d s passes t) (after_token i below t)) ts
    ≡ verdict (suc i)
    (stepped i (maybe_equation d s ∷ below) (if b then takes (arguments (deeper s)) (begun s) else passes) (after_token i (maybe_equation d s ∷ below) t)) ts
applied-either i d s below t ts true = applied-opened i d s below t ts (begun s)
applied-either i d s below t ts false = refl

applied-same :
    (i : ℕ) (d : Bool) (s : Surroundings) (below : List Symbol) (ts : List Lexeme)
    → verdict i (going (maybe_applied d s ∷ below)) ts ≡ verdict i (going (maybe_arguments s ∷ maybe_equation d s ∷ below)) ts
applied-same i d s below [] = refl
applied-same i d s below (t ∷ ts) = applied-either i d s below t ts (is_mark (codes "(") t)

-- behind a word that begins an atom: arguments or none, and then a sign of an equation or none
pub applied-leads :
    (r : Reader) (i : ℕ) (d : Bool) (s : Surroundings)
    → Leads r (maybe_applied d s ∷ []) i (maybe_arguments s ∷ maybe_equation d s ∷ []) i
unfolding told
applied-leads r i d s = record { by = λ below. applied-same i d s below (drop i (lexemes r)) }

pub atom_variable-leads :
    (r : Reader) (at : ℕ) (names : List Name) (level : ℕ) (d : Bool) (s : Surroundings) (t : Lexeme)
    → Suits r names level s → IsNext r at t → is_variable t.kind ≡ true → is_free_among r.closed names t.bytes ≡ false
    → Leads r (an_atom d s ∷ []) at (an_equation d s ∷ []) (at + 1)
atom_variable-leads r at names level d s t f n h e =
    takes-leads r at (an_atom d s) t (an_equation d s ∷ []) n
    (ap (step (an_atom d s)) (variable-spelled t.kind t.bytes h)
    ∙ ap (takes (an_equation d s ∷ [])) (cause-among r names level s t.bytes false f e))

pub atom_variable-ends :
    (r : Reader) (at : ℕ) (names : List Name) (level : ℕ) (d : Bool) (s : Surroundings) (t : Lexeme)
    → Suits r names level s → IsNext r at t → is_variable t.kind ≡ true → is_free_among r.closed names t.bytes ≡ true
    → Ends r (an_atom d s ∷ []) at (At FreeVariable at)
atom_variable-ends r at names level d s t f n h e =
    fault-ends r at (an_atom d s) t (an_equation d s ∷ []) FreeVariable n
    (ap (step (an_atom d s)) (variable-spelled t.kind t.bytes h)
    ∙ ap (takes (an_equation d s ∷ [])) (cause-among r names level s t.bytes true f e))

-- ---- equations

pub equation-leads :
    (r : Reader) (at : ℕ) (d : Bool) (s : Surroundings) (t : Lexeme)
    → IsNext r at t → is_sign_of_equation d t ≡ true → Leads r (maybe_equation d s ∷ []) at (a_term s ∷ []) (at + 1)
equation-leads r at d s t n h = takes-leads r at (maybe_equation d s) t (a_term s ∷ []) n (rw h refl)

pub no_equation-leads :
    (r : Reader) (at : ℕ) (d : Bool) (s : Surroundings) (t : Lexeme)
    → IsNext r at t → is_sign_of_equation d t ≡ false → Leads r (maybe_equation d s ∷ []) at [] at
no_equation-leads r at d s t n h = passes-leads r at (maybe_equation d s) t n (rw h refl)

pub needed-leads :
    (r : Reader) (at : ℕ) (d : Bool) (s : Surroundings) (t : Lexeme)
    → IsNext r at t → is_sign_of_equation d t ≡ true → Leads r (an_equation d s ∷ []) at (a_term s ∷ []) (at + 1)
needed-leads r at d s t n h = takes-leads r at (an_equation d s) t (a_term s ∷ []) n (rw h refl)

pub needed-ends :
    (r : Reader) (at : ℕ) (d : Bool) (s : Surroundings) (t : Lexeme)
    → IsNext r at t → is_sign_of_equation d t ≡ false → Ends r (an_equation d s ∷ []) at (At Syntax at)
needed-ends r at d s t n h = stop-ends r at (an_equation d s) t Syntax n (rw h refl)

or-false : (a b : Bool) → a ≡ false → (a || b) ≡ true → b ≡ true
or-false true b h g = cc
or-false false b h g = g

-- the sign of an equation, where it is `=` or isn't
pub sign-is :
    (d b : Bool) (t : Lexeme) → is_sign_of_equation d t ≡ true → is_connective (codes "=") t ≡ b → t ≡ equals_lexeme b
sign-is d true t h g = lexeme-is Connective (codes "=") t g
sign-is true false t h g =
    lexeme-is Connective (codes "!=") t (or-false (is_connective (codes "=") t) (is_connective (codes "!=") t) g h)
sign-is false false t h g = absurd (false≢true (or-false (is_connective (codes "=") t) false g h))

pub equation-allowed :
    (d b : Bool) (t : Lexeme) (left right : TermPhrase)
    → is_sign_of_equation d t ≡ true → is_connective (codes "=") t ≡ b → is_allowed d (equation_atom b left right) ≡ true
equation-allowed true b t left right h g = refl
equation-allowed false true t left right h g = refl
equation-allowed false false t left right h g = absurd (false≢true (or-false (is_connective (codes "=") t) false g h))

-- ---- truth words and what is no atom

pub true-leads :
    (r : Reader) (at : ℕ) (d : Bool) (s : Surroundings) (t : Lexeme)
    → IsNext r at t → t ≡ lexeme Dollar (codes "$true") → Leads r (an_atom d s ∷ []) at [] (at + 1)
true-leads r at d s t n h = takes-leads r at (an_atom d s) t [] n (ap (step (an_atom d s)) h)

pub false-leads :
    (r : Reader) (at : ℕ) (d : Bool) (s : Surroundings) (t : Lexeme)
    → IsNext r at t → t ≡ lexeme Dollar (codes "$false") → Leads r (an_atom d s ∷ []) at [] (at + 1)
false-leads r at d s t n h = takes-leads r at (an_atom d s) t [] n (ap (step (an_atom d s)) h)

no_truth : (bytes : List ℕ) → bytes_eq (codes "$true") bytes ≡ false → bytes_eq (codes "$false") bytes ≡ false → is_truth_word bytes ≡ false
no_truth bytes h g =
    rw (
      bytes_eq-turned (codes "$true") bytes (bytes_eq bytes (codes "$true")) h refl,
      bytes_eq-turned (codes "$false") bytes (bytes_eq bytes (codes "$false")) g refl,
    ) refl

other-step :
    (d : Bool) (s : Surroundings) (k : Kind) (bytes : List ℕ)
    → is_word k ≡ false → is_variable k ≡ false
    → is_lexeme Dollar (codes "$true") (lexeme k bytes) ≡ false → is_lexeme Dollar (codes "$false") (lexeme k bytes) ≡ false
    → step (an_atom d s) (lexeme k bytes) ≡ stops (refusal_of (term_refusal k bytes))
other-step d s Lower bytes h g e f = cc
other-step d s Variable bytes h g e f = cc
other-step d s Quoted bytes h g e f = cc
other-step d s Distinct bytes h g e f = refl
other-step d s Dollar bytes h g e f = rw (no_truth bytes e f) refl
other-step d s Number bytes h g e f = refl
other-step d s Connective bytes h g e f = refl
other-step d s Mark bytes h g e f = refl
other-step d s Other bytes h g e f = refl

pub atom_other-ends :
    (r : Reader) (at : ℕ) (d : Bool) (s : Surroundings) (t : Lexeme)
    → IsNext r at t → is_word t.kind ≡ false → is_variable t.kind ≡ false
    → is_lexeme Dollar (codes "$true") t ≡ false → is_lexeme Dollar (codes "$false") t ≡ false
    → Ends r (an_atom d s ∷ []) at (At (term_refusal t.kind t.bytes) at)
atom_other-ends r at d s t n h g e f = stop-ends r at (an_atom d s) t (term_refusal t.kind t.bytes) n (other-step d s t.kind t.bytes h g e f)
