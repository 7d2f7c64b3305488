-- The contracts of the functions that read a general term: what each says of the tokens before and
-- after, told by the machine.
use Rattle.std.specs.Prelude.{◌≡◌, ⊤, ℕ, List, [], ◌∷◌, ◌++◌, drop, codes, Option, None, Some}
use Rattle.tptp_token.specs.Lexemes.{Lexeme, lexemes_of, IsTokenAt}
use Rattle.tptp_source.specs.General.{GeneralTree}
use Rattle.tptp_source.specs.Machine.{Opener, bracketed, closing, Level, level, State, wants, may_open, has, ends, run}
use Rattle.tptp_source.specs.declared.reader.Reader.{Reader}
use Rattle.tptp_source.specs.declared.reader.Halt.{Halt}
use Rattle.tptp_source.specs.declared.reader.Halt.TheVariants.{NoMemory, NoTerm}

-- all tokens
abbrev pub lexemes : Reader → List Lexeme
lexemes r = lexemes_of r.bytes.now r.tokens.now

-- the token at an index
abbrev pub IsNext : Reader → ℕ → Lexeme → Type 0
IsNext r at token = IsTokenAt r.bytes.now r.tokens.now at token

-- the term that the tokens from an index on lead to, from a state on
unfoldable pub told : Reader → State → ℕ → Option GeneralTree
told r s at = run (Some s) (drop at (lexemes r))

abbrev pub IsHalt : Halt → Option GeneralTree → Type 0
IsHalt NoMemory answer = ⊤
IsHalt NoTerm answer = answer ≡ None

-- ---- symbols that have to come lead to terms that were read, whatever was read before

-- a state of the machine, by the parts that were read of the innermost term, and the open brackets
abbrev pub Place : Type 0
Place = List GeneralTree → List Level → State

-- after that part
abbrev pub behind : GeneralTree → Place
behind t before levels = has (before ++ t ∷ []) levels

pub record Leads (r : Reader) (first : Place) (at : ℕ) (last : Place) (next : ℕ) : Type 0 where
  pub by : (before : List GeneralTree) (levels : List Level) → told r (first before levels) at ≡ told r (last before levels) next

pub record Halts (r : Reader) (first : Place) (at : ℕ) (halt : Halt) : Type 0 where
  pub by : (before : List GeneralTree) (levels : List Level) → IsHalt halt (told r (first before levels) at)

-- ---- the contracts of the reading functions

abbrev pub ReadsPart : Reader → Place → ℕ → ℕ → GeneralTree → Type 0
ReadsPart r first at next t = Leads r first at (behind t) next

-- a whole term
abbrev pub term_place : Place
term_place before levels = wants [] levels

abbrev pub ended : GeneralTree → Place
ended t before levels = ends t levels

abbrev pub ReadsTerm : Reader → ℕ → ℕ → GeneralTree → Type 0
ReadsTerm r at next t = Leads r term_place at (ended t) next

-- further parts of a term, after these and a `:`
abbrev pub parts_place : List GeneralTree → Place
parts_place parts before levels = wants parts levels

abbrev pub parts_behind : List GeneralTree → Place
parts_behind parts before levels = has parts levels

-- the terms in brackets, where these were read before
abbrev pub items_place : Opener → List GeneralTree → Place
items_place o items before levels = wants [] (level o before items ∷ levels)

pub record ReadsItems (close : List ℕ) (r : Reader) (at next : ℕ) (ts : List GeneralTree) : Type 0 where
  pub by : (o : Opener) → closing o ≡ close → Leads r (items_place o []) at (behind (bracketed o ts)) next

pub record HaltsItems (close : List ℕ) (r : Reader) (at : ℕ) (halt : Halt) : Type 0 where
  pub by : (o : Opener) → closing o ≡ close → Halts r (items_place o []) at halt

-- the arguments of a word or a dollar word
pub record ReadsArguments (r : Reader) (at next : ℕ) (ts : List GeneralTree) : Type 0 where
  pub by : (o : Opener) → closing o ≡ codes ")" → ReadsPart r (may_open o) at next (bracketed o ts)

pub record HaltsArguments (r : Reader) (at : ℕ) (halt : Halt) : Type 0 where
  pub by : (o : Opener) → closing o ≡ codes ")" → Halts r (may_open o) at halt
