-- The answers on the annotated formula that begins at some token of a text, told by the places of tokens in the whole text.
use Rattle.std.specs.Prelude.{◌≡◌, ◌≤◌, ℕ, suc, ◌-◌, List, [], ◌∷◌, length, take, drop}
use Rattle.tptp_token.specs.Lexemes.{Lexeme}
use Rattle.tptp_tree.specs.Entries.{AnnotatedPhrase}
use Rattle.tptp_tree.specs.Causes.{Refusal}
use Rattle.tptp_reader.specs.Machine.{Verdict, read_up_to, refused_at, ran_out, verdict, going, an_annotated}
use Rattle.tptp_reader.specs.Answers.{IsReadAs, IsRefusedAt, RunsOut}

-- the machine's verdict on the annotated formula at that token
abbrev pub verdict_at : ℕ → List Lexeme → ℕ → Verdict
verdict_at limit tokens first = verdict first (going (an_annotated limit ∷ [])) (drop first tokens)

-- the annotated formula from one token up to the other
abbrev pub IsReadFrom : ℕ → List Lexeme → ℕ → AnnotatedPhrase → ℕ → Type 0
IsReadFrom limit tokens first p next = IsReadAs limit (drop first tokens) p (drop next tokens)

-- the token of that index ends the reading
pub record IsRefusedFrom (limit : ℕ) (tokens : List Lexeme) (first index : ℕ) (refusal : Refusal) : Type 0 where
  pub behind : first ≤ index
  pub token : Lexeme
  pub here : drop index tokens ≡ token ∷ drop (suc index) tokens
  pub refused : IsRefusedAt limit (take (index - first) (drop first tokens)) token refusal

-- the tokens end before the formula does
abbrev pub RunsOutFrom : ℕ → List Lexeme → ℕ → Type 0
RunsOutFrom limit tokens first = RunsOut limit (drop first tokens)

-- An answer on the annotated formula that begins at a token: it is read up to another token, a token ends the reading, or the
-- tokens end too early.
abbrev pub IsAnswerFrom : ℕ → List Lexeme → ℕ → Verdict → Type 0
IsAnswerFrom limit tokens first (read_up_to next) =
    (p : AnnotatedPhrase) × IsReadFrom limit tokens first p next × (next ≤ length tokens)
IsAnswerFrom limit tokens first (refused_at index refusal) = IsRefusedFrom limit tokens first index refusal
IsAnswerFrom limit tokens first ran_out = RunsOutFrom limit tokens first

-- the machine's verdict is an answer, and the only one
pub record IsTheAnswerFrom (limit : ℕ) (tokens : List Lexeme) (first : ℕ) : Type 0 where
  pub right : IsAnswerFrom limit tokens first (verdict_at limit tokens first)
  pub only : (v : Verdict) → IsAnswerFrom limit tokens first v → v ≡ verdict_at limit tokens first
