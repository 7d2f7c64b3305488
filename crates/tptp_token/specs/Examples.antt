-- The definitions on small texts.
use Rattle.std.specs.Prelude.{◌≡◌, ℕ, None, Some, [], ◌∷◌, codes}
use Rattle.tptp_token.specs.Lexing.{lexed_of}
use Rattle.tptp_token.specs.Lexemes.{lexeme, IsTokenAt}
use Rattle.tptp_token.specs.declared.token.Kind.{Kind}
use Rattle.tptp_token.specs.declared.token.Kind.TheVariants.{Lower, Variable, Number, Connective, Mark}
use Rattle.tptp_token.specs.declared.token.LexFault.TheVariants.{BadByte, Unclosed}
use Rattle.tptp_token.specs.declared.token.Token.{Token}

abbrev token : Kind → ℕ → ℕ → Token
token kind start end = record { kind = kind; start = start; end = end }

abbrev pub FourTokens : Type 0
FourTokens =
    lexed_of (codes "p(X)")
    ≡ record { tokens = token Lower 0 1 ∷ token Mark 1 2 ∷ token Variable 2 3 ∷ token Mark 3 4 ∷ []; fault = None }

abbrev pub BadUnderscore : Type 0
BadUnderscore = lexed_of (codes "p _") ≡ record { tokens = token Lower 0 1 ∷ []; fault = Some (BadByte 2) }

abbrev pub OpenQuote : Type 0
OpenQuote = lexed_of (codes "'ab") ≡ record { tokens = []; fault = Some (Unclosed 0) }

abbrev pub LongestSigns : Type 0
LongestSigns =
    lexed_of (codes "!=!<~>")
    ≡ record { tokens = token Connective 0 2 ∷ token Connective 2 3 ∷ token Connective 3 6 ∷ []; fault = None }

abbrev pub EmptyQuote : Type 0
EmptyQuote = lexed_of (codes "a''b") ≡ record { tokens = token Lower 0 1 ∷ []; fault = Some (BadByte 2) }

abbrev pub EarlyNumber : Type 0
EarlyNumber =
    lexed_of (codes "3.e1")
    ≡ record { tokens = token Number 0 1 ∷ token Mark 1 2 ∷ token Lower 2 4 ∷ []; fault = None }

abbrev pub EndlessComment : Type 0
EndlessComment = lexed_of (codes "/*/") ≡ record { tokens = []; fault = Some (Unclosed 0) }

abbrev pub Comments : Type 0
Comments = lexed_of (codes "a/**/b%c") ≡ record { tokens = token Lower 0 1 ∷ token Lower 5 6 ∷ []; fault = None }

abbrev pub SecondToken : Type 0
SecondToken = IsTokenAt (codes "p(X)") (lexed_of (codes "p(X)")).tokens 1 (lexeme Mark (codes "("))
