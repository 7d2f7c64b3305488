-- The meaning of the machine's verdict.
use Rattle.std.specs.Prelude.{◌≡◌, ◌≤◌, ℕ, suc, List, [], ◌∷◌, length, take, drop}
use Rattle.tptp_token.specs.Lexemes.{Lexeme}
use Rattle.tptp_tree.specs.Entries.{AnnotatedPhrase}
use Rattle.tptp_reader.specs.Machine.{Verdict, read_up_to, refused_at, ran_out, verdict, going, an_annotated}
use Rattle.tptp_reader.specs.Answers.{IsReadAs, IsRefusedAt, RunsOut}

-- the machine's verdict on the first annotated formula of the tokens
abbrev pub verdict_on : ℕ → List Lexeme → Verdict
verdict_on limit tokens = verdict 0 (going (an_annotated limit ∷ [])) tokens

-- Tokens are told by their places, from 0.
abbrev pub IsAnswer : ℕ → List Lexeme → Verdict → Type 0
IsAnswer limit tokens (read_up_to n) = (p : AnnotatedPhrase) × IsReadAs limit tokens p (drop n tokens) × (n ≤ length tokens)
IsAnswer limit tokens (refused_at n refusal) =
    (token : Lexeme) × (drop n tokens ≡ token ∷ drop (suc n) tokens) × IsRefusedAt limit (take n tokens) token refusal
IsAnswer limit tokens ran_out = RunsOut limit tokens

-- the verdict is an answer, and the only one
pub record IsTheAnswer (limit : ℕ) (tokens : List Lexeme) : Type 0 where
  pub right : IsAnswer limit tokens (verdict_on limit tokens)
  pub only : (v : Verdict) → IsAnswer limit tokens v → v ≡ verdict_on limit tokens
