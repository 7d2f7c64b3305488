-- The tokens of a text stand one after the other, none of them empty, within the text.
use Rattle.std.specs.Prelude.{◌≤◌, ◌<◌, ℕ, List, [], ◌∷◌, length}
use Rattle.tptp_token.specs.Lexing.{lexed_of}
use Rattle.tptp_token.specs.declared.token.Kind.TheVariants.{Lower}
use Rattle.tptp_token.specs.declared.token.Token.{Token}

-- from a place on, up to an end
abbrev pub StandBetween : ℕ → ℕ → List Token → Type 0
StandBetween place end [] = place ≤ end
StandBetween place end (t ∷ ts) = (place ≤ t.start) × (t.start < t.end) × StandBetween t.end end ts

abbrev pub TokensRise : Type 0
TokensRise = (bytes : List ℕ) → StandBetween 0 (length bytes) (lexed_of bytes).tokens

-- ---- worked examples, on texts of four bytes

abbrev word : ℕ → ℕ → Token
word start end = record { kind = Lower; start = start; end = end }

-- two tokens with a blank between them, the second up to the end
abbrev pub TwoTokens : Type 0
TwoTokens = StandBetween 0 4 (word 0 2 ∷ word 3 4 ∷ [])

-- a token without bytes
abbrev pub EmptyToken : Type 0
EmptyToken = StandBetween 0 4 (word 1 1 ∷ []) → ⊥

-- a token that begins within the one before it
abbrev pub CrossingTokens : Type 0
CrossingTokens = StandBetween 0 4 (word 0 2 ∷ word 1 3 ∷ []) → ⊥

-- a token that ends after the text
abbrev pub TokenTooFar : Type 0
TokenTooFar = StandBetween 0 4 (word 3 5 ∷ []) → ⊥
