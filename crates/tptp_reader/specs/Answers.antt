-- The answers of reading one annotated formula from tokens: the formula, or the first token at which it can't go on, and why.
use Rattle.std.specs.Prelude.{◌≡◌, ◌⊎◌, ℕ, suc, true, List, [], ◌∷◌, ◌++◌, map, length, take, codes, Option, None, Some, if◌then◌else◌}
use Rattle.std.specs.List.{AllByRecursion}
use Rattle.tptp_token.specs.Spelling.{is_one_of}
use Rattle.tptp_token.specs.Lexemes.{Lexeme, lexeme}
use Rattle.tptp_token.specs.declared.token.Kind.{Kind}
use Rattle.tptp_token.specs.declared.token.Kind.TheVariants.{Lower, Variable, Quoted, Distinct, Dollar, Number, Connective, Mark, Other}
use Rattle.tptp_tree.specs.Entries.{AnnotatedPhrase, is_right_annotated, annotated_lexemes}
use Rattle.tptp_tree.specs.Causes.{Form, typed, role_form, number_form, distinct_form, dollar_form, Refusal, syntax, free_variable, role_not_taken, too_deep, left_out, annotated_causes}

abbrev pub AreFaultless : List (Option Refusal) → Type 0
AreFaultless causes = AllByRecursion (λ (c : Option Refusal). c ≡ None) causes

-- The tokens are those of a right annotated formula and the rest, and nothing is wrong with any of them.
pub record IsReadAs (limit : ℕ) (tokens : List Lexeme) (p : AnnotatedPhrase) (rest : List Lexeme) : Type 0 where
  pub right : is_right_annotated p ≡ true
  pub spelled : tokens ≡ annotated_lexemes p rest
  pub faultless : AreFaultless (annotated_causes limit p)

-- some text goes on after the tokens: they are the first ones of a right annotated formula
pub record Begins (tokens : List Lexeme) (p : AnnotatedPhrase) (more : List Lexeme) : Type 0 where
  pub right : is_right_annotated p ≡ true
  pub continued : annotated_lexemes p [] ≡ tokens ++ more

abbrev pub MayBegin : List Lexeme → Type 0
MayBegin tokens = (p : AnnotatedPhrase) × (more : List Lexeme) × Begins tokens p more

-- and nothing is wrong with any of them
abbrev pub BeginsFaultless : ℕ → List Lexeme → Type 0
BeginsFaultless limit tokens =
    (p : AnnotatedPhrase) × (more : List Lexeme) × Begins tokens p more
    × AreFaultless (take (length tokens) (annotated_causes limit p))

-- The grammar allows the token after those before it, and it has the cause.
abbrev pub IsFault : ℕ → List Lexeme → Lexeme → Refusal → Type 0
IsFault limit before token refusal =
    (p : AnnotatedPhrase) × (more : List Lexeme) × Begins (before ++ token ∷ []) p more
    × (take (suc (length before)) (annotated_causes limit p) ≡ map (λ (t : Lexeme). None) before ++ Some refusal ∷ [])

-- ---- a token after which no text goes on

-- A term may stand where both a variable and a word may.
abbrev pub TermMayStand : List Lexeme → Type 0
TermMayStand before =
    MayBegin (before ++ lexeme Variable (codes "X") ∷ []) × MayBegin (before ++ lexeme Lower (codes "a") ∷ [])

-- the form of a token that is left out where a term may stand
abbrev pub form_of_token : Kind → List ℕ → Option Form
form_of_token Number bytes = Some number_form
form_of_token Distinct bytes = Some distinct_form
form_of_token Dollar bytes = if is_one_of (codes "$true" ∷ codes "$false" ∷ []) bytes then None else Some dollar_form
form_of_token Lower bytes = None
form_of_token Variable bytes = None
form_of_token Quoted bytes = None
form_of_token Connective bytes = None
form_of_token Mark bytes = None
form_of_token Other bytes = None

-- the first word of a typed formula or of TPTP's process instructions
abbrev pub IsTypedWord : List Lexeme → Lexeme → Type 0
IsTypedWord before token =
    (before ≡ []) × (token.kind ≡ Lower)
    × (is_one_of (codes "thf" ∷ codes "tff" ∷ codes "tcf" ∷ codes "tpi" ∷ []) token.bytes ≡ true)

abbrev pub IsLeftOut : List Lexeme → Lexeme → Form → Type 0
IsLeftOut before token typed = IsTypedWord before token
IsLeftOut before token role_form = ⊥
IsLeftOut before token number_form = TermMayStand before × (form_of_token token.kind token.bytes ≡ Some number_form)
IsLeftOut before token distinct_form = TermMayStand before × (form_of_token token.kind token.bytes ≡ Some distinct_form)
IsLeftOut before token dollar_form = TermMayStand before × (form_of_token token.kind token.bytes ≡ Some dollar_form)

-- why no text goes on so: a form that is left out, or no such form and so the syntax
abbrev pub IsOutOfPlace : List Lexeme → Lexeme → Refusal → Type 0
IsOutOfPlace before token syntax = (form : Form) → IsLeftOut before token form → ⊥
IsOutOfPlace before token (left_out form) = IsLeftOut before token form
IsOutOfPlace before token free_variable = ⊥
IsOutOfPlace before token role_not_taken = ⊥
IsOutOfPlace before token too_deep = ⊥

-- ---- the answers

-- The tokens end before the formula does.
abbrev pub RunsOut : ℕ → List Lexeme → Type 0
RunsOut limit tokens =
    BeginsFaultless limit tokens × ((p : AnnotatedPhrase) → (rest : List Lexeme) → IsReadAs limit tokens p rest → ⊥)

-- The token after the tokens before it ends the reading, for that reason: it is at fault itself, or the formula isn't ended
-- before it and no formula goes on with it.
abbrev pub IsRefusedAt : ℕ → List Lexeme → Lexeme → Refusal → Type 0
IsRefusedAt limit before token refusal =
    IsFault limit before token refusal
    ⊎ RunsOut limit before × (MayBegin (before ++ token ∷ []) → ⊥) × IsOutOfPlace before token refusal
