-- The meaning of the machine's verdict.
use Rattle.std.specs.Prelude.{◌≡◌, ◌≤◌, ℕ, suc, List, [], ◌∷◌, length, take, drop}
use Rattle.tptp_token.specs.Lexemes.{Lexeme}
use Rattle.typed_tree.specs.TypedEntries.{TypedPhrase}
use Rattle.typed_tree.specs.TypedAnswers.{IsReadAs, IsRefusedAt, RunsOut, IsReadFrom, IsRefusedFrom, RunsOutFrom}
use Rattle.typed_machine.specs.TypedMachine.{Verdict, read_up_to, refused_at, ran_out, verdict, going, an_entry, verdict_at}

-- the machine's verdict on the first entry of the tokens
abbrev pub verdict_on : ℕ → List Lexeme → Verdict
verdict_on limit tokens = verdict 0 (going (an_entry limit ∷ [])) tokens

-- Tokens are told by their places, from 0.
abbrev pub IsAnswer : ℕ → List Lexeme → Verdict → Type 0
IsAnswer limit tokens (read_up_to n) = (p : TypedPhrase) × IsReadAs limit tokens p (drop n tokens) × (n ≤ length tokens)
IsAnswer limit tokens (refused_at n refusal) =
    (token : Lexeme) × (drop n tokens ≡ token ∷ drop (suc n) tokens) × IsRefusedAt limit (take n tokens) token (drop (suc n) tokens) refusal
IsAnswer limit tokens ran_out = RunsOut limit tokens

-- the verdict is an answer, and the only one
pub record IsTheAnswer (limit : ℕ) (tokens : List Lexeme) : Type 0 where
  pub right : IsAnswer limit tokens (verdict_on limit tokens)
  pub only : (v : Verdict) → IsAnswer limit tokens v → v ≡ verdict_on limit tokens

-- ---- of the entry that begins at some token of a text, by the places of tokens in the whole text

abbrev pub IsAnswerFrom : ℕ → List Lexeme → ℕ → Verdict → Type 0
IsAnswerFrom limit tokens first (read_up_to next) =
    (p : TypedPhrase) × IsReadFrom limit tokens first p next × (next ≤ length tokens)
IsAnswerFrom limit tokens first (refused_at index refusal) = IsRefusedFrom limit tokens first index refusal
IsAnswerFrom limit tokens first ran_out = RunsOutFrom limit tokens first

-- the machine's verdict is an answer, and the only one
pub record IsTheAnswerFrom (limit : ℕ) (tokens : List Lexeme) (first : ℕ) : Type 0 where
  pub right : IsAnswerFrom limit tokens first (verdict_at limit tokens first)
  pub only : (v : Verdict) → IsAnswerFrom limit tokens first v → v ≡ verdict_at limit tokens first
