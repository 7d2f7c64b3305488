-- One line of a derivation, read from the text's tokens.
use Rattle.std.specs.Prelude.{ℕ, ◌<◌, ◌≤◌, List, [], ◌∷◌, length, drop}
use Rattle.tptp_token.specs.Lexing.{lexed_of}
use Rattle.clausal_form.specs.DerivationTexts.{text_tokens, SpellsLines}
use Rattle.tstp_checker.specs.Lines.{line_meant}
use Rattle.tstp_checker.specs.declared.reading.ReadLine.{ReadLine}

-- The line begins at the token `first`, and its next token is the first after it.
pub record IsLineAt (bytes : List ℕ) (first : ℕ) (line : ReadLine) : Type 0 where
  pub spelled :
      SpellsLines (drop first (text_tokens bytes)) (line_meant line.annotated line.source ∷ []) (drop line.next (text_tokens bytes))
  pub onward : first < line.next
  pub within : line.next ≤ length (lexed_of bytes).tokens
