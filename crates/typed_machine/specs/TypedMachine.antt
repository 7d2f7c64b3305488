-- The grammar of typed entries as a stack machine that takes token after token, as a reader does, on top of that of untyped formulas: its
-- symbols for terms, atoms, names and notes stand on this one's stack. It says at which token the reading ends, and why.
use Rattle.std.specs.Prelude.{ℕ, suc, ◌==◌, Bool, true, false, ◌&&◌, ◌||◌, List, [], ◌∷◌, ◌++◌, map, drop, codes, Option, None, Some, if◌then◌else◌}
use Rattle.tptp_token.specs.Spelling.{is_one_of}
use Rattle.tptp_token.specs.Words.{is_word}
use Rattle.tptp_token.specs.Lexemes.{Lexeme, kind_place, is_lexeme, is_mark, is_connective}
use Rattle.tptp_token.specs.declared.token.Kind.TheVariants.{Lower, Variable, Dollar, Other}
use Rattle.tptp_tree.specs.Entries.{role_of}
use Rattle.tptp_tree.specs.Causes.{dollar_form, typed, Refusal, syntax, left_out, Surroundings, deeper, binding, begun, untaken_role_cause}
use Rattle.tptp_reader.specs.Machine.{Symbol, mark, an_atom, a_name, end_of_body, is_binary_connective, Step, takes as plain_takes, passes as plain_passes, stops as plain_stops, step as plain_step}
use Rattle.typed_tree.specs.TypedCauses.{after_variable, variable_begun, outermost}
use Rattle.typed_tree.specs.TypedAnswers.{TypedRefusal, plain, polymorphic, mixed}

-- A symbol of the grammar that has still to come. A symbol with `maybe` in its name may be left out.
pub data TypedSymbol : Type 0 where
  -- of untyped formulas
  untyped_symbol : Symbol → TypedSymbol
  an_entry : ℕ → TypedSymbol
  -- with what follows it up to the end of the body
  a_typed_role : ℕ → TypedSymbol
  a_unit : Surroundings → TypedSymbol
  maybe_connected : Surroundings → TypedSymbol
  maybe_more_units : List ℕ → Surroundings → TypedSymbol
  -- the bracket of a quantifier's variables
  variables_bracket : Surroundings → TypedSymbol
  -- a variable, its sort, and what follows it, where these variables were read before; the surroundings are those outside the bracket,
  -- after the variables before
  next_variable : List (List ℕ) → Surroundings → TypedSymbol
  maybe_sort : TypedSymbol
  more_variables : List (List ℕ) → Surroundings → TypedSymbol
  a_sort_word : TypedSymbol
  -- a declaration; what follows its colon
  a_declaration : Surroundings → TypedSymbol
  a_type : Surroundings → TypedSymbol
  -- after a type's first sort: `>` and a result
  maybe_result : TypedSymbol
  an_arrow : TypedSymbol
  a_result : TypedSymbol
  -- `*` and a further sort, or `)`
  more_sorts : TypedSymbol

pub data TypedStep : Type 0 where
  takes : List TypedSymbol → Option Refusal → TypedStep
  passes : TypedStep
  stops : TypedRefusal → TypedStep

-- ---- steps of untyped symbols

abbrev pub typed_step_of : Step → TypedStep
typed_step_of (plain_takes new cause) = takes (map untyped_symbol new) cause
typed_step_of plain_passes = passes
typed_step_of (plain_stops refusal) = stops (plain refusal)

abbrev pub taken : List TypedSymbol → TypedStep
taken new = takes new None

abbrev pub a_mark : List ℕ → TypedSymbol
a_mark bytes = untyped_symbol (mark bytes)

-- ---- formulas

abbrev pub unit_step : Surroundings → Lexeme → TypedStep
unit_step s token =
    if is_connective (codes "~") token then takes (a_unit (deeper s) ∷ []) (begun s)
    else if is_connective (codes "!") token || is_connective (codes "?") token then taken (variables_bracket s ∷ [])
    else if is_mark (codes "(") token
    then takes (a_unit (deeper s) ∷ maybe_connected (deeper s) ∷ a_mark (codes ")") ∷ []) (begun s)
    else typed_step_of (plain_step (an_atom true s) token)

abbrev pub connected_step : Surroundings → Lexeme → TypedStep
connected_step s token =
    if is_connective (codes "&") token then taken (a_unit s ∷ maybe_more_units (codes "&") s ∷ [])
    else if is_connective (codes "|") token then taken (a_unit s ∷ maybe_more_units (codes "|") s ∷ [])
    else if is_binary_connective token then taken (a_unit s ∷ [])
    else passes

abbrev pub is_variable_token : Lexeme → Bool
is_variable_token token = kind_place token.kind == kind_place Variable

-- A variable begins two levels.
abbrev pub variable_step : List (List ℕ) → Surroundings → Lexeme → TypedStep
variable_step xs s token =
    if is_variable_token token
    then takes (maybe_sort ∷ more_variables (xs ++ token.bytes ∷ []) (after_variable s) ∷ []) (variable_begun (deeper s))
    else stops (plain syntax)

-- ---- sorts and types

abbrev pub is_dollar_token : Lexeme → Bool
is_dollar_token token = kind_place token.kind == kind_place Dollar

-- why a token can't stand where a sort has to
abbrev pub sort_refusal : Lexeme → Refusal
sort_refusal token = if is_dollar_token token then left_out dollar_form else syntax

abbrev pub is_sort_token : Lexeme → Bool
is_sort_token token = is_word token.kind || is_lexeme Dollar (codes "$i") token

abbrev pub sort_step : List TypedSymbol → Lexeme → TypedStep
sort_step more token = if is_sort_token token then taken more else stops (plain (sort_refusal token))

-- A `!` is that of a polymorphic type where a `>` follows.
abbrev pub type_step : Surroundings → Lexeme → TypedStep
type_step s token =
    if is_lexeme Dollar (codes "$tType") token || is_lexeme Dollar (codes "$o") token then taken []
    else if is_connective (codes "!") token then stops polymorphic
    else if is_mark (codes "(") token then takes (a_sort_word ∷ more_sorts ∷ an_arrow ∷ a_result ∷ []) (begun s)
    else sort_step (maybe_result ∷ []) token

abbrev pub result_step : Lexeme → TypedStep
result_step token = if is_lexeme Dollar (codes "$o") token then taken [] else sort_step [] token

-- ---- entries

abbrev pub formula_symbols : Surroundings → List TypedSymbol
formula_symbols s = a_unit s ∷ maybe_connected s ∷ []

abbrev pub role_step : ℕ → Lexeme → TypedStep
role_step limit token =
    if is_lexeme Lower (codes "type") token
    then taken (a_mark (codes ",") ∷ a_declaration (outermost limit) ∷ untyped_symbol (end_of_body limit) ∷ [])
    else if kind_place token.kind == kind_place Lower
    then takes (a_mark (codes ",") ∷ formula_symbols (outermost limit) ++ untyped_symbol (end_of_body limit) ∷ [])
    (untaken_role_cause (role_of false token.bytes) token.bytes)
    else stops (plain syntax)

abbrev pub entry_step : ℕ → Lexeme → TypedStep
entry_step limit token =
    if is_lexeme Lower (codes "tff") token
    then taken (a_mark (codes "(") ∷ untyped_symbol a_name ∷ a_mark (codes ",") ∷ a_typed_role limit ∷ [])
    else if is_lexeme Lower (codes "fof") token || is_lexeme Lower (codes "cnf") token then stops mixed
    else if kind_place token.kind == kind_place Lower && is_one_of (codes "thf" ∷ codes "tcf" ∷ codes "tpi" ∷ []) token.bytes
    then stops (plain (left_out typed))
    else stops (plain syntax)

-- ---- one step, and the run

abbrev pub step : TypedSymbol → Lexeme → TypedStep
step (untyped_symbol symbol) token = typed_step_of (plain_step symbol token)
step (an_entry limit) token = entry_step limit token
step (a_typed_role limit) token = role_step limit token
step (a_unit s) token = unit_step s token
step (maybe_connected s) token = connected_step s token
step (maybe_more_units sign s) token =
    if is_connective sign token then taken (a_unit s ∷ maybe_more_units sign s ∷ []) else passes
step (variables_bracket s) token =
    if is_mark (codes "[") token then takes (next_variable [] s ∷ []) (begun s) else stops (plain syntax)
step (next_variable xs s) token = variable_step xs s token
step maybe_sort token = if is_mark (codes ":") token then taken (a_sort_word ∷ []) else passes
step (more_variables xs s) token =
    if is_mark (codes ",") token then taken (next_variable xs s ∷ [])
    else if is_mark (codes "]") token then taken (a_mark (codes ":") ∷ a_unit (binding xs s) ∷ [])
    else stops (plain syntax)
step a_sort_word token = sort_step [] token
step (a_declaration s) token =
    if is_mark (codes "(") token then takes (a_declaration (deeper s) ∷ a_mark (codes ")") ∷ []) (begun s)
    else if is_word token.kind then taken (a_mark (codes ":") ∷ a_type s ∷ [])
    else stops (plain syntax)
step (a_type s) token = type_step s token
step maybe_result token = if is_lexeme Other (codes ">") token then taken (a_result ∷ []) else passes
step an_arrow token = if is_lexeme Other (codes ">") token then taken [] else stops (plain syntax)
step a_result token = result_step token
step more_sorts token =
    if is_lexeme Other (codes "*") token then taken (a_sort_word ∷ more_sorts ∷ [])
    else if is_mark (codes ")") token then taken []
    else stops (plain syntax)

-- The machine before a token: it goes on with a stack; or it has ended, and all that was to come stands before the token of that place;
-- or the token of that place is refused.
pub data Run : Type 0 where
  going : List TypedSymbol → Run
  over : ℕ → Run
  refused : ℕ → TypedRefusal → Run

-- The reason by the tokens after the one that is refused: no text goes on with a `!` where no `>` follows.
abbrev pub arrow_first : List Lexeme → Bool
arrow_first [] = false
arrow_first (t ∷ ts) = is_lexeme Other (codes ">") t

abbrev pub resolved : TypedRefusal → List Lexeme → TypedRefusal
resolved (plain refusal) behind = plain refusal
resolved polymorphic behind = if arrow_first behind then polymorphic else plain syntax
resolved mixed behind = mixed

-- the run after a symbol's step: from the place of the token, the stack below the symbol, the tokens behind, the step, and the run in
-- which the symbol is left out
abbrev pub stepped : ℕ → List TypedSymbol → List Lexeme → TypedStep → Run → Run
stepped place below behind (takes new None) left_out_run = going (new ++ below)
stepped place below behind (takes new (Some refusal)) left_out_run = refused place (plain refusal)
stepped place below behind passes left_out_run = left_out_run
stepped place below behind (stops refusal) left_out_run = refused place (resolved refusal behind)

-- the run after a token
abbrev pub after_token : ℕ → List TypedSymbol → Lexeme → List Lexeme → Run
after_token place [] token behind = over place
after_token place (s ∷ ss) token behind = stepped place ss behind (step s token) (after_token place ss token behind)

-- the end of a reading: all that was to come stands before the token of that place; the token of that place is refused; or the tokens run out
pub data Verdict : Type 0 where
  read_up_to : ℕ → Verdict
  refused_at : ℕ → TypedRefusal → Verdict
  ran_out : Verdict

-- the verdict on the tokens, the first of which has that place
abbrev pub verdict : ℕ → Run → List Lexeme → Verdict
verdict place (over end) tokens = read_up_to end
verdict place (refused at refusal) tokens = refused_at at refusal
verdict place (going []) tokens = read_up_to place
verdict place (going (s ∷ ss)) [] = ran_out
verdict place (going (s ∷ ss)) (t ∷ ts) = verdict (suc place) (after_token place (s ∷ ss) t ts) ts

-- the verdict on the typed entry at a token
abbrev pub verdict_at : ℕ → List Lexeme → ℕ → Verdict
verdict_at limit tokens first = verdict first (going (an_entry limit ∷ [])) (drop first tokens)
