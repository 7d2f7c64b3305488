-- Runs of tokens whose brackets close, as annotations are.
use Rattle.std.specs.Prelude.{Bool, true, false, ◌||◌, List, [], ◌∷◌, codes, Option, None, Some, if◌then◌else◌}
use Rattle.tptp_token.specs.Lexemes.{Lexeme, is_lexeme, is_mark}
use Rattle.tptp_token.specs.declared.token.Kind.TheVariants.{Other}

-- the kinds of brackets: round, square and curly
pub data Bracket : Type 0 where
  round : Bracket
  square : Bracket
  curly : Bracket

-- the token closes a bracket of this kind: `]` closes a square one
abbrev pub closes : Bracket → Lexeme → Bool
closes round token = is_mark (codes ")") token
closes square token = is_mark (codes "]") token
closes curly token = is_lexeme Other (codes "}") token

-- the kind of bracket that a token opens; none where it opens none
abbrev pub opened : Lexeme → Option Bracket
opened token =
    if is_mark (codes "(") token then Some round
    else if is_mark (codes "[") token then Some square
    else if is_lexeme Other (codes "{") token then Some curly
    else None

-- the token closes some bracket
abbrev pub is_closing : Lexeme → Bool
is_closing token = closes round token || (closes square token || closes curly token)

-- The open brackets after a token that closes none of them: those before it, and one that it opens. None where the token is a
-- closing bracket.
abbrev pub with_opened : Option Bracket → Bool → List Bracket → Option (List Bracket)
with_opened (Some b) closing unclosed = Some (b ∷ unclosed)
with_opened None true unclosed = None
with_opened None false unclosed = Some unclosed

-- The open brackets after a token, innermost first, by those that are open before it. None where the token is a closing bracket but
-- doesn't close the innermost.
abbrev pub open_after : List Bracket → Lexeme → Option (List Bracket)
open_after [] token = with_opened (opened token) (is_closing token) []
open_after (b ∷ bs) token = if closes b token then Some bs else with_opened (opened token) (is_closing token) (b ∷ bs)

-- the open brackets after a run of tokens, by those before it; none where some token closes a wrong bracket
abbrev pub open_behind : Option (List Bracket) → List Lexeme → Option (List Bracket)
open_behind None tokens = None
open_behind (Some unclosed) [] = Some unclosed
open_behind (Some unclosed) (t ∷ ts) = open_behind (open_after unclosed t) ts

-- no token closed a wrong bracket, and no bracket is left open
abbrev pub is_nothing_open : Option (List Bracket) → Bool
is_nothing_open None = false
is_nothing_open (Some []) = true
is_nothing_open (Some (b ∷ bs)) = false

-- each bracket closes the innermost one that is open, and none stays open
abbrev pub are_balanced : List Lexeme → Bool
are_balanced tokens = is_nothing_open (open_behind (Some []) tokens)
