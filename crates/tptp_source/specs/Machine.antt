-- The grammar of general terms as a machine that takes token after token, as a reader does, and builds the term. Its state
-- has the parts that were read and the brackets that are open.
use Rattle.std.specs.Prelude.{ℕ, Bool, true, false, List, [], ◌∷◌, ◌++◌, codes, bytes_eq, Option, None, Some, if◌then◌else◌}
use Rattle.tptp_token.specs.Words.{is_word, token_name}
use Rattle.tptp_token.specs.Lexemes.{Lexeme, is_mark}
use Rattle.tptp_token.specs.declared.token.Kind.{Kind}
use Rattle.tptp_token.specs.declared.token.Kind.TheVariants.{Lower, Variable, Quoted, Distinct, Dollar, Number, Connective, Mark, Other}
use Rattle.tptp_source.specs.declared.sign.NumberSign.{NumberSign}
use Rattle.tptp_source.specs.declared.sign.NumberSign.TheVariants.{Unsigned, Plus, Minus}
use Rattle.tptp_source.specs.declared.beginning.Beginning.{Beginning}
use Rattle.tptp_source.specs.declared.beginning.Beginning.TheVariants.{Variable as VariableFirst, Word as WordFirst, Dollar as DollarFirst, Number as NumberFirst, Sign as SignFirst, Distinct as DistinctFirst, Tilde, Bracket, Nothing}
use Rattle.tptp_source.specs.General.{GeneralTree, variable, word, dollar, number, distinct, negated, listed, trees_of, whole}

-- ---- states

-- the opener of a bracket: a word or a dollar word before it, or nothing before that of a list
pub data Opener : Type 0 where
  word_opens : List ℕ → Opener
  dollar_opens : List ℕ → Opener
  list_opens : Opener

-- the term of the bracket and of the terms in it
abbrev pub bracketed : Opener → List GeneralTree → GeneralTree
bracketed (word_opens f) ts = word f (trees_of ts)
bracketed (dollar_opens d) ts = dollar d (trees_of ts)
bracketed list_opens ts = listed (trees_of ts)

abbrev pub closing : Opener → List ℕ
closing (word_opens f) = codes ")"
closing (dollar_opens d) = codes ")"
closing list_opens = codes "]"

-- an open bracket, with the parts before it and the terms in it
pub record Level : Type 0 where
  pub opener : Opener
  pub before : List GeneralTree
  pub items : List GeneralTree

abbrev pub level : Opener → List GeneralTree → List GeneralTree → Level
level o before items = record { opener = o; before = before; items = items }

-- The parts that were read of the innermost term, and the open brackets around it, innermost first.
pub data State : Type 0 where
  -- a part has to come
  wants : List GeneralTree → List Level → State
  -- after a word or a dollar word: arguments may come
  may_open : Opener → List GeneralTree → List Level → State
  -- after the bracket of a list
  in_list : List GeneralTree → List Level → State
  -- after `~`
  wants_word : List GeneralTree → List Level → State
  -- after the sign of a number
  wants_number : NumberSign → List GeneralTree → List Level → State
  -- after a part, which is the last one of those that were read
  has : List GeneralTree → List Level → State
  -- after a whole term
  ends : GeneralTree → List Level → State

-- ---- tokens

abbrev pub beginning_by : Kind → List ℕ → Beginning
beginning_by Lower bytes = WordFirst
beginning_by Variable bytes = VariableFirst
beginning_by Quoted bytes = WordFirst
beginning_by Distinct bytes = DistinctFirst
beginning_by Dollar bytes = DollarFirst
beginning_by Number bytes = NumberFirst
beginning_by Connective bytes = if bytes_eq bytes (codes "~") then Tilde else Nothing
beginning_by Mark bytes = if bytes_eq bytes (codes "[") then Bracket else Nothing
beginning_by Other bytes =
    if bytes_eq bytes (codes "+") then SignFirst Plus else (if bytes_eq bytes (codes "-") then SignFirst Minus else Nothing)

abbrev pub is_number : Kind → Bool
is_number Lower = false
is_number Variable = false
is_number Quoted = false
is_number Distinct = false
is_number Dollar = false
is_number Number = true
is_number Connective = false
is_number Mark = false
is_number Other = false

-- the part that a token begins, where a part may stand
abbrev pub beginning_of : Lexeme → Beginning
beginning_of token = beginning_by token.kind token.bytes

-- the first token is this mark
abbrev pub begins_with : List ℕ → List Lexeme → Bool
begins_with bytes [] = false
begins_with bytes (t ∷ ts) = is_mark bytes t

-- ---- steps

abbrev pub part_step : Beginning → Lexeme → List GeneralTree → List Level → Option State
part_step VariableFirst token before levels = Some (has (before ++ variable token.bytes ∷ []) levels)
part_step WordFirst token before levels = Some (may_open (word_opens (token_name token.kind token.bytes)) before levels)
part_step DollarFirst token before levels = Some (may_open (dollar_opens token.bytes) before levels)
part_step NumberFirst token before levels = Some (has (before ++ number Unsigned token.bytes ∷ []) levels)
part_step (SignFirst sign) token before levels = Some (wants_number sign before levels)
part_step DistinctFirst token before levels = Some (has (before ++ distinct token.bytes ∷ []) levels)
part_step Tilde token before levels = Some (wants_word before levels)
part_step Bracket token before levels = Some (in_list before levels)
part_step Nothing token before levels = None

abbrev pub wants_step : List GeneralTree → List Level → Lexeme → Option State
wants_step before levels token = part_step (beginning_of token) token before levels

-- a whole term is followed by a comma or by the closing bracket
abbrev pub ends_step : GeneralTree → List Level → Lexeme → Option State
ends_step t [] token = None
ends_step t (l ∷ levels) token =
    if is_mark (codes ",") token then Some (wants [] (level l.opener l.before (l.items ++ t ∷ []) ∷ levels))
    else if is_mark (closing l.opener) token then Some (has (l.before ++ bracketed l.opener (l.items ++ t ∷ []) ∷ []) levels)
    else None

abbrev pub has_step : List GeneralTree → List Level → Lexeme → Option State
has_step parts levels token = if is_mark (codes ":") token then Some (wants parts levels) else ends_step (whole parts) levels token

abbrev pub may_open_step : Opener → List GeneralTree → List Level → Lexeme → Option State
may_open_step o before levels token =
    if is_mark (codes "(") token then Some (wants [] (level o before [] ∷ levels))
    else has_step (before ++ bracketed o [] ∷ []) levels token

abbrev pub in_list_step : List GeneralTree → List Level → Lexeme → Option State
in_list_step before levels token =
    if is_mark (codes "]") token then Some (has (before ++ bracketed list_opens [] ∷ []) levels)
    else wants_step [] (level list_opens before [] ∷ levels) token

abbrev pub word_step : List GeneralTree → List Level → Lexeme → Option State
word_step before levels token =
    if is_word token.kind then Some (has (before ++ negated (token_name token.kind token.bytes) ∷ []) levels) else None

abbrev pub number_step : NumberSign → List GeneralTree → List Level → Lexeme → Option State
number_step sign before levels token =
    if is_number token.kind then Some (has (before ++ number sign token.bytes ∷ []) levels) else None

-- the state after a token, if a term can go on with it
abbrev pub step : State → Lexeme → Option State
step (wants before levels) token = wants_step before levels token
step (may_open o before levels) token = may_open_step o before levels token
step (in_list before levels) token = in_list_step before levels token
step (wants_word before levels) token = word_step before levels token
step (wants_number sign before levels) token = number_step sign before levels token
step (has parts levels) token = has_step parts levels token
step (ends t levels) token = ends_step t levels token

-- ---- runs

abbrev pub outermost : List Level → GeneralTree → Option GeneralTree
outermost [] t = Some t
outermost (l ∷ levels) t = None

-- the term, where the tokens end
abbrev pub at_end : State → Option GeneralTree
at_end (wants before levels) = None
at_end (may_open o before levels) = outermost levels (whole (before ++ bracketed o [] ∷ []))
at_end (in_list before levels) = None
at_end (wants_word before levels) = None
at_end (wants_number sign before levels) = None
at_end (has parts levels) = outermost levels (whole parts)
at_end (ends t levels) = outermost levels t

-- the term that the tokens lead to, from a state on
abbrev pub run : Option State → List Lexeme → Option GeneralTree
run None tokens = None
run (Some s) [] = at_end s
run (Some s) (t ∷ ts) = run (step s t) ts

-- the term that tokens are read as
abbrev pub read : List Lexeme → Option GeneralTree
read tokens = run (Some (wants [] [])) tokens
