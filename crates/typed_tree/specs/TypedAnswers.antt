-- The answers of reading one typed entry from tokens: the entry, or the first token at which it can't go on, and why; as for
-- untyped formulas.
use Rattle.std.specs.Prelude.{◌≡◌, ◌⊎◌, ◌≤◌, ℕ, suc, ◌-◌, true, List, [], ◌∷◌, ◌++◌, map, length, take, drop, codes, None, Some}
use Rattle.tptp_token.specs.Spelling.{is_one_of}
use Rattle.tptp_token.specs.Lexemes.{Lexeme, lexeme}
use Rattle.tptp_token.specs.declared.token.Kind.TheVariants.{Lower, Variable, Dollar, Connective, Other}
use Rattle.tptp_tree.specs.Causes.{Form, typed, role_form, number_form, distinct_form, dollar_form, Refusal, syntax, free_variable, role_not_taken, too_deep, left_out}
use Rattle.tptp_reader.specs.Answers.{AreFaultless, form_of_token}
use Rattle.typed_tree.specs.TypedEntries.{TypedPhrase, is_right_typed, typed_lexemes}
use Rattle.typed_tree.specs.TypedCauses.{typed_causes}

-- why a token ends the reading: as for untyped formulas; it is the `!` of a polymorphic type; or the first word of an untyped formula
pub data TypedRefusal : Type 0 where
  plain : Refusal → TypedRefusal
  polymorphic : TypedRefusal
  mixed : TypedRefusal

-- The tokens are those of a right entry and the rest, and nothing is wrong with any of them.
pub record IsReadAs (limit : ℕ) (tokens : List Lexeme) (p : TypedPhrase) (rest : List Lexeme) : Type 0 where
  pub right : is_right_typed p ≡ true
  pub spelled : tokens ≡ typed_lexemes p rest
  pub faultless : AreFaultless (typed_causes limit p)

-- some text goes on after the tokens
pub record Begins (tokens : List Lexeme) (p : TypedPhrase) (more : List Lexeme) : Type 0 where
  pub right : is_right_typed p ≡ true
  pub continued : typed_lexemes p [] ≡ tokens ++ more

abbrev pub MayBegin : List Lexeme → Type 0
MayBegin tokens = (p : TypedPhrase) × (more : List Lexeme) × Begins tokens p more

-- and nothing is wrong with any of them
abbrev pub BeginsFaultless : ℕ → List Lexeme → Type 0
BeginsFaultless limit tokens =
    (p : TypedPhrase) × (more : List Lexeme) × Begins tokens p more × AreFaultless (take (length tokens) (typed_causes limit p))

-- The grammar allows the token after those before it, and it has the cause.
abbrev pub IsFault : ℕ → List Lexeme → Lexeme → Refusal → Type 0
IsFault limit before token refusal =
    (p : TypedPhrase) × (more : List Lexeme) × Begins (before ++ token ∷ []) p more
    × (take (suc (length before)) (typed_causes limit p) ≡ map (λ (t : Lexeme). None) before ++ Some refusal ∷ [])

-- ---- a token after which no text goes on

-- A term may stand where both a variable and a word may.
abbrev pub TermMayStand : List Lexeme → Type 0
TermMayStand before = MayBegin (before ++ lexeme Variable (codes "X") ∷ []) × MayBegin (before ++ lexeme Lower (codes "a") ∷ [])

-- A sort may stand where both `$i` and a word may.
abbrev pub SortMayStand : List Lexeme → Type 0
SortMayStand before = MayBegin (before ++ lexeme Dollar (codes "$i") ∷ []) × MayBegin (before ++ lexeme Lower (codes "a") ∷ [])

abbrev pub IsLeftOut : List Lexeme → Lexeme → Form → Type 0
IsLeftOut before token typed =
    (before ≡ []) × (token.kind ≡ Lower) × (is_one_of (codes "thf" ∷ codes "tcf" ∷ codes "tpi" ∷ []) token.bytes ≡ true)
IsLeftOut before token role_form = ⊥
IsLeftOut before token number_form = TermMayStand before × (form_of_token token.kind token.bytes ≡ Some number_form)
IsLeftOut before token distinct_form = TermMayStand before × (form_of_token token.kind token.bytes ≡ Some distinct_form)
IsLeftOut before token dollar_form =
    TermMayStand before × (form_of_token token.kind token.bytes ≡ Some dollar_form) ⊎ SortMayStand before × (token.kind ≡ Dollar)

-- `!` where a type may stand, with a `>` after it
pub record IsPolymorphic (before : List Lexeme) (token : Lexeme) (behind : List Lexeme) : Type 0 where
  pub type_may_stand : MayBegin (before ++ lexeme Dollar (codes "$tType") ∷ [])
  pub bang : token ≡ lexeme Connective (codes "!")
  pub others : List Lexeme
  pub arrow : behind ≡ lexeme Other (codes ">") ∷ others

-- the first word of an untyped formula
abbrev pub IsMixed : List Lexeme → Lexeme → Type 0
IsMixed before token = (before ≡ []) × (token.kind ≡ Lower) × (is_one_of (codes "fof" ∷ codes "cnf" ∷ []) token.bytes ≡ true)

-- why no text goes on so: a form that is left out, an untyped formula, or none of these and so the syntax
pub record IsSyntax (before : List Lexeme) (token : Lexeme) (behind : List Lexeme) : Type 0 where
  pub no_form : (form : Form) → IsLeftOut before token form → ⊥
  pub not_polymorphic : IsPolymorphic before token behind → ⊥
  pub not_mixed : IsMixed before token → ⊥

abbrev pub IsOutOfPlace : List Lexeme → Lexeme → List Lexeme → TypedRefusal → Type 0
IsOutOfPlace before token behind (plain syntax) = IsSyntax before token behind
IsOutOfPlace before token behind (plain (left_out form)) = IsLeftOut before token form
IsOutOfPlace before token behind (plain free_variable) = ⊥
IsOutOfPlace before token behind (plain role_not_taken) = ⊥
IsOutOfPlace before token behind (plain too_deep) = ⊥
IsOutOfPlace before token behind polymorphic = IsPolymorphic before token behind
IsOutOfPlace before token behind mixed = IsMixed before token

-- ---- the answers

abbrev pub IsFaultOfToken : ℕ → List Lexeme → Lexeme → TypedRefusal → Type 0
IsFaultOfToken limit before token (plain refusal) = IsFault limit before token refusal
IsFaultOfToken limit before token polymorphic = ⊥
IsFaultOfToken limit before token mixed = ⊥

-- The tokens end before the entry does.
abbrev pub RunsOut : ℕ → List Lexeme → Type 0
RunsOut limit tokens = BeginsFaultless limit tokens × ((p : TypedPhrase) → (rest : List Lexeme) → IsReadAs limit tokens p rest → ⊥)

-- The token after the tokens before it ends the reading, for that reason: it is at fault itself, or the entry isn't ended before it
-- and no entry goes on with it.
abbrev pub IsRefusedAt : ℕ → List Lexeme → Lexeme → List Lexeme → TypedRefusal → Type 0
IsRefusedAt limit before token behind refusal =
    IsFaultOfToken limit before token refusal
    ⊎ RunsOut limit before × (MayBegin (before ++ token ∷ []) → ⊥) × IsOutOfPlace before token behind refusal

-- ---- by the indexes of tokens in a text

-- the entry from one token up to another
abbrev pub IsReadFrom : ℕ → List Lexeme → ℕ → TypedPhrase → ℕ → Type 0
IsReadFrom limit tokens first p next = IsReadAs limit (drop first tokens) p (drop next tokens)

-- the token of that index ends the reading
pub record IsRefusedFrom (limit : ℕ) (tokens : List Lexeme) (first index : ℕ) (refusal : TypedRefusal) : Type 0 where
  pub behind : first ≤ index
  pub token : Lexeme
  pub here : drop index tokens ≡ token ∷ drop (suc index) tokens
  pub refused : IsRefusedAt limit (take (index - first) (drop first tokens)) token (drop (suc index) tokens) refusal

abbrev pub RunsOutFrom : ℕ → List Lexeme → ℕ → Type 0
RunsOutFrom limit tokens first = RunsOut limit (drop first tokens)
