-- What the symbols of clauses do with tokens.
use Rattle.std.proofs.Common.{◌≡◌, ◌<◌, ◌≤◌, ℕ, ◌+◌, Bool, true, false, List, [], ◌∷◌, codes, if◌then◌else◌, refl, ap, ◌∙◌}
use Rattle.tptp_token.specs.Lexemes.{Lexeme, is_mark, is_connective}
use Rattle.tptp_token.specs.declared.token.Kind.{Kind}
use Rattle.tptp_token.specs.declared.token.Kind.TheVariants.{Lower, Variable, Quoted, Distinct, Dollar, Number, Connective, Mark, Other}
use Rattle.tptp_tree.specs.Spelling.{Atom, true_atom, false_atom, predicate_atom, equation_atom}
use Rattle.tptp_tree.specs.Entries.{PlainAtom, plain_true, plain_false, plain_predicate, plain_equation, atom_of}
use Rattle.tptp_tree.specs.Causes.{left_out, dollar_form, Surroundings, deeper, begun}
use Rattle.tptp_reader.specs.Machine.{Symbol, mark, an_atom, a_clause, a_literal, a_plain_literal, maybe_more_literals, atom_step, is_truth_word, takes, stops, taken, step}
use Rattle.tptp_reader.specs.Telling.{IsNext, Leads, Ends, Suits, is_allowed, further_literals}
use Rattle.tptp_reader.specs.declared.source.Reader.{Reader}
use Rattle.tptp_reader.specs.declared.source.Name.{Name}
use Rattle.tptp_reader.specs.declared.cause.Halt.TheVariants.{At}
use Rattle.tptp_reader.specs.declared.cause.Refusal.TheVariants.{Nesting}
use Rattle.tptp_reader.proofs.AboutTexts.TellingLemmas.{takes-leads, fault-ends, passes-leads, same-leads, begun-none, begun-deep, NeverPasses, followed-leads}

-- ---- a symbol that begins a level at a token

pub level-leads :
    (r : Reader) (at : ℕ) (names : List Name) (level : ℕ) (s : Surroundings) (x : Symbol) (t : Lexeme) (new : List Symbol)
    → Suits r names level s → IsNext r at t → step x t ≡ takes new (begun s) → level < r.limit
    → Leads r (x ∷ []) at new (at + 1)
level-leads r at names level s x t new f n e low =
    takes-leads r at x t new n (e ∙ ap (takes new) (begun-none r names level s f low))

pub level-ends :
    (r : Reader) (at : ℕ) (names : List Name) (level : ℕ) (s : Surroundings) (x : Symbol) (t : Lexeme) (new : List Symbol)
    → Suits r names level s → IsNext r at t → step x t ≡ takes new (begun s) → r.limit ≤ level
    → Ends r (x ∷ []) at (At Nesting at)
level-ends r at names level s x t new f n e high =
    fault-ends r at x t new Nesting n (e ∙ ap (takes new) (begun-deep r names level s f high))

pub clause_open-step :
    (s : Surroundings) (t : Lexeme) → is_mark (codes "(") t ≡ true
    → step (a_clause s) t ≡ takes (a_clause (deeper s) ∷ mark (codes ")") ∷ []) (begun s)
clause_open-step s t h = rw h refl

pub literal_not-step :
    (s : Surroundings) (t : Lexeme) → is_connective (codes "~") t ≡ true
    → step (a_literal s) t ≡ takes (a_plain_literal (deeper s) ∷ []) (begun s)
literal_not-step s t h = rw h refl

pub plain_open-step :
    (s : Surroundings) (t : Lexeme) → is_mark (codes "(") t ≡ true
    → step (a_plain_literal s) t ≡ takes (an_atom false (deeper s) ∷ mark (codes ")") ∷ []) (begun s)
plain_open-step s t h = rw h refl

-- ---- a symbol that stands for another one

pub literal-as_atom :
    (r : Reader) (at : ℕ) (s : Surroundings) (t : Lexeme)
    → IsNext r at t → is_connective (codes "~") t ≡ false → Leads r (a_literal s ∷ []) at (an_atom true s ∷ []) at
literal-as_atom r at s t n h = same-leads r at (a_literal s) (an_atom true s) t n (rw h refl)

pub plain-as_atom :
    (r : Reader) (at : ℕ) (s : Surroundings) (t : Lexeme)
    → IsNext r at t → is_mark (codes "(") t ≡ false → Leads r (a_plain_literal s ∷ []) at (an_atom false s ∷ []) at
plain-as_atom r at s t n h = same-leads r at (a_plain_literal s) (an_atom false s) t n (rw h refl)

truth-takes : (b : Bool) → NeverPasses (if b then taken [] else stops (left_out dollar_form))
truth-takes true = tt
truth-takes false = tt

atom-takes : (d : Bool) (s : Surroundings) (k : Kind) (bytes : List ℕ) → NeverPasses (atom_step d s k bytes)
atom-takes d s Lower bytes = tt
atom-takes d s Variable bytes = tt
atom-takes d s Quoted bytes = tt
atom-takes d s Distinct bytes = tt
atom-takes d s Dollar bytes = truth-takes (is_truth_word bytes)
atom-takes d s Number bytes = tt
atom-takes d s Connective bytes = tt
atom-takes d s Mark bytes = tt
atom-takes d s Other bytes = tt

either-takes :
    (b : Bool) (s : Surroundings) (k : Kind) (bytes : List ℕ)
    → NeverPasses (if b then takes (a_plain_literal (deeper s) ∷ []) (begun s) else atom_step true s k bytes)
either-takes true s k bytes = tt
either-takes false s k bytes = atom-takes true s k bytes

pub clause-as_literals :
    (r : Reader) (at : ℕ) (s : Surroundings) (t : Lexeme)
    → IsNext r at t → is_mark (codes "(") t ≡ false → Leads r (a_clause s ∷ []) at (further_literals s) at
clause-as_literals r at s t n h =
    followed-leads r at (a_clause s) (a_literal s) (maybe_more_literals s ∷ []) t n (rw h refl)
    (either-takes (is_connective (codes "~") t) s t.kind t.bytes)

-- ---- literals between signs

pub bar-leads :
    (r : Reader) (at : ℕ) (s : Surroundings) (t : Lexeme)
    → IsNext r at t → is_connective (codes "|") t ≡ true → Leads r (maybe_more_literals s ∷ []) at (further_literals s) (at + 1)
bar-leads r at s t n h = takes-leads r at (maybe_more_literals s) t (further_literals s) n (rw h refl)

pub no_bar-leads :
    (r : Reader) (at : ℕ) (s : Surroundings) (t : Lexeme)
    → IsNext r at t → is_connective (codes "|") t ≡ false → Leads r (maybe_more_literals s ∷ []) at [] at
no_bar-leads r at s t n h = passes-leads r at (maybe_more_literals s) t n (rw h refl)

-- ---- atoms that aren't written with `!=`

pub plain_of : Atom → PlainAtom
plain_of true_atom = plain_true
plain_of false_atom = plain_false
plain_of (predicate_atom w ts) = plain_predicate w ts
plain_of (equation_atom positive s t) = plain_equation s t

pub atom-plain : (a : Atom) → is_allowed false a ≡ true → atom_of (plain_of a) ≡ a
unfolding plain_of
atom-plain true_atom h = refl
atom-plain false_atom h = refl
atom-plain (predicate_atom w ts) h = refl
atom-plain (equation_atom true s t) h = refl
atom-plain (equation_atom false s t) h = cc
