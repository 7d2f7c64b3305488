-- The program's tokens with their bytes.
use Rattle.tptp_token.specs.Lexemes.{Lexeme}
use Rattle.tptp_token.specs.declared.text_token.TextToken.{TextToken}

-- the token's kind and bytes
abbrev pub lexeme_of : TextToken → Lexeme
lexeme_of t = record { kind = t.kind; bytes = t.bytes.now }
