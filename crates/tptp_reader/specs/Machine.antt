-- The grammar of annotated formulas as a stack machine that takes token after token, as a reader does: on the stack stand the
-- symbols that have still to come. It says at which token the reading ends, and why.
use Rattle.std.specs.Prelude.{ℕ, suc, Bool, true, false, ◌==◌, ◌&&◌, ◌||◌, List, [], ◌∷◌, ◌++◌, length, codes, bytes_eq, Option, None, Some, if◌then◌else◌}
use Rattle.tptp_token.specs.Spelling.{is_one_of}
use Rattle.tptp_token.specs.Words.{is_name}
use Rattle.tptp_token.specs.Lexemes.{Lexeme, kind_place, is_mark, is_connective}
use Rattle.tptp_token.specs.declared.token.Kind.{Kind}
use Rattle.tptp_token.specs.declared.token.Kind.TheVariants.{Lower, Variable, Quoted, Distinct, Dollar, Number, Connective, Mark, Other}
use Rattle.tptp_tree.specs.Brackets.{Bracket, opened, open_after}
use Rattle.tptp_tree.specs.Causes.{typed, number_form, distinct_form, dollar_form, Refusal, syntax, left_out, Surroundings, deeper, binding, begun, variable_cause, role_cause, note_cause, outermost}

-- A symbol of the grammar that has still to come. A symbol with `maybe` in its name may be left out.
pub data Symbol : Type 0 where
  -- exactly this mark
  mark : List ℕ → Symbol
  a_term : Surroundings → Symbol
  -- arguments in brackets
  maybe_arguments : Surroundings → Symbol
  -- `,` and a further argument, or `)`
  more_arguments : Surroundings → Symbol
  -- An atom. The Bool of this symbol and of those that follow on it says whether `!=` may be used.
  an_atom : Bool → Surroundings → Symbol
  -- after a word that begins an atom: arguments, `=` or `!=`
  maybe_applied : Bool → Surroundings → Symbol
  maybe_equation : Bool → Surroundings → Symbol
  -- after a variable that begins an atom
  an_equation : Bool → Surroundings → Symbol
  a_unit : Surroundings → Symbol
  -- after the first unit of a formula: a connective and what follows it
  maybe_connected : Surroundings → Symbol
  -- that connective again, and a further unit after it
  maybe_more_units : List ℕ → Surroundings → Symbol
  -- the bracket of a quantifier's variables
  variables_bracket : Surroundings → Symbol
  -- a variable, and `,` or `]` after it, where these variables were read before
  next_variable : List (List ℕ) → Surroundings → Symbol
  more_variables : List (List ℕ) → Surroundings → Symbol
  a_clause : Surroundings → Symbol
  a_literal : Surroundings → Symbol
  -- after `~`
  a_plain_literal : Surroundings → Symbol
  maybe_more_literals : Surroundings → Symbol
  a_name : Symbol
  a_role : Bool → Symbol
  -- after the body: `,` and notes, or `)`
  end_of_body : ℕ → Symbol
  -- the first token of notes, and the others with the `)` after them, with the brackets that are open
  first_note : ℕ → Symbol
  more_notes : ℕ → List Bracket → Symbol
  an_annotated : ℕ → Symbol

-- The step of a symbol on a token. The symbol takes the token, with the symbols that then have to come and the token's fault,
-- if it has one; or the symbol is left out; or no text goes on so.
pub data Step : Type 0 where
  takes : List Symbol → Option Refusal → Step
  passes : Step
  stops : Refusal → Step

-- ---- tokens

abbrev pub is_sign_of_equation : Bool → Lexeme → Bool
is_sign_of_equation may_differ token =
    is_connective (codes "=") token || (if may_differ then is_connective (codes "!=") token else false)

abbrev pub is_binary_connective : Lexeme → Bool
is_binary_connective token =
    (kind_place token.kind == kind_place Connective)
    && is_one_of (codes "=>" ∷ codes "<=" ∷ codes "<=>" ∷ codes "<~>" ∷ codes "~|" ∷ codes "~&" ∷ []) token.bytes

abbrev pub is_truth_word : List ℕ → Bool
is_truth_word = is_one_of (codes "$true" ∷ codes "$false" ∷ [])

-- the marks after which nothing is wrong
abbrev pub taken : List Symbol → Step
taken new = takes new None

abbrev pub followed_by : List Symbol → Step → Step
followed_by more (takes new cause) = takes (new ++ more) cause
followed_by more passes = passes
followed_by more (stops refusal) = stops refusal

-- ---- terms and atoms

abbrev pub term_step : Surroundings → Kind → List ℕ → Step
term_step s Lower bytes = taken (maybe_arguments s ∷ [])
term_step s Variable bytes = takes [] (variable_cause s.scope bytes)
term_step s Quoted bytes = taken (maybe_arguments s ∷ [])
term_step s Distinct bytes = stops (left_out distinct_form)
term_step s Dollar bytes = stops (if is_truth_word bytes then syntax else left_out dollar_form)
term_step s Number bytes = stops (left_out number_form)
term_step s Connective bytes = stops syntax
term_step s Mark bytes = stops syntax
term_step s Other bytes = stops syntax

abbrev pub atom_step : Bool → Surroundings → Kind → List ℕ → Step
atom_step may_differ s Lower bytes = taken (maybe_applied may_differ s ∷ [])
atom_step may_differ s Variable bytes = takes (an_equation may_differ s ∷ []) (variable_cause s.scope bytes)
atom_step may_differ s Quoted bytes = taken (maybe_applied may_differ s ∷ [])
atom_step may_differ s Distinct bytes = stops (left_out distinct_form)
atom_step may_differ s Dollar bytes = if is_truth_word bytes then taken [] else stops (left_out dollar_form)
atom_step may_differ s Number bytes = stops (left_out number_form)
atom_step may_differ s Connective bytes = stops syntax
atom_step may_differ s Mark bytes = stops syntax
atom_step may_differ s Other bytes = stops syntax

-- the first argument and what follows it
abbrev pub arguments : Surroundings → List Symbol
arguments s = a_term s ∷ more_arguments s ∷ []

abbrev pub equation_step : Bool → Surroundings → Step → Lexeme → Step
equation_step may_differ s otherwise token = if is_sign_of_equation may_differ token then taken (a_term s ∷ []) else otherwise

-- ---- formulas and clauses

abbrev pub unit_step : Surroundings → Lexeme → Step
unit_step s token =
    if is_connective (codes "~") token then takes (a_unit (deeper s) ∷ []) (begun s)
    else if is_connective (codes "!") token || is_connective (codes "?") token
    then takes (variables_bracket (deeper s) ∷ []) (begun s)
    else if is_mark (codes "(") token
    then takes (a_unit (deeper s) ∷ maybe_connected (deeper s) ∷ mark (codes ")") ∷ []) (begun s)
    else atom_step true s token.kind token.bytes

abbrev pub connected_step : Surroundings → Lexeme → Step
connected_step s token =
    if is_connective (codes "&") token then taken (a_unit s ∷ maybe_more_units (codes "&") s ∷ [])
    else if is_connective (codes "|") token then taken (a_unit s ∷ maybe_more_units (codes "|") s ∷ [])
    else if is_binary_connective token then taken (a_unit s ∷ [])
    else passes

abbrev pub variable_step : List (List ℕ) → Surroundings → Kind → List ℕ → Step
variable_step xs s Variable bytes = taken (more_variables (xs ++ bytes ∷ []) s ∷ [])
variable_step xs s Lower bytes = stops syntax
variable_step xs s Quoted bytes = stops syntax
variable_step xs s Distinct bytes = stops syntax
variable_step xs s Dollar bytes = stops syntax
variable_step xs s Number bytes = stops syntax
variable_step xs s Connective bytes = stops syntax
variable_step xs s Mark bytes = stops syntax
variable_step xs s Other bytes = stops syntax

abbrev pub literal_step : Surroundings → Lexeme → Step
literal_step s token =
    if is_connective (codes "~") token then takes (a_plain_literal (deeper s) ∷ []) (begun s)
    else atom_step true s token.kind token.bytes

-- ---- names, roles, notes, entries

abbrev pub name_step : Kind → List ℕ → Step
name_step kind bytes = if is_name kind bytes then taken [] else stops syntax

abbrev pub role_step : Bool → Kind → List ℕ → Step
role_step is_clause Lower bytes = takes [] (role_cause is_clause bytes)
role_step is_clause Variable bytes = stops syntax
role_step is_clause Quoted bytes = stops syntax
role_step is_clause Distinct bytes = stops syntax
role_step is_clause Dollar bytes = stops syntax
role_step is_clause Number bytes = stops syntax
role_step is_clause Connective bytes = stops syntax
role_step is_clause Mark bytes = stops syntax
role_step is_clause Other bytes = stops syntax

-- the step on a token of notes, by the brackets that are open before it and after it; `otherwise` is the step on a token that
-- closes none of them
abbrev pub note_step : ℕ → List Bracket → Option (List Bracket) → Step → Lexeme → Step
note_step limit unclosed (Some behind) otherwise token =
    takes (more_notes limit behind ∷ []) (note_cause limit (length unclosed) (opened token))
note_step limit unclosed None otherwise token = otherwise

-- the bracket of the entry closes, where no bracket of the notes is open
abbrev pub end_of_notes_step : List Bracket → Lexeme → Step
end_of_notes_step [] token = if is_mark (codes ")") token then taken (mark (codes ".") ∷ []) else stops syntax
end_of_notes_step (b ∷ bs) token = stops syntax

abbrev pub before_body : Bool → List Symbol
before_body is_clause = mark (codes "(") ∷ a_name ∷ mark (codes ",") ∷ a_role is_clause ∷ mark (codes ",") ∷ []

abbrev pub formula_symbols : Surroundings → List Symbol
formula_symbols s = a_unit s ∷ maybe_connected s ∷ []

abbrev pub typed_words : List (List ℕ)
typed_words = codes "thf" ∷ codes "tff" ∷ codes "tcf" ∷ codes "tpi" ∷ []

abbrev pub language_step : ℕ → List ℕ → Step
language_step limit bytes =
    if bytes_eq bytes (codes "fof") then taken (before_body false ++ formula_symbols (outermost limit false) ++ end_of_body limit ∷ [])
    else if bytes_eq bytes (codes "cnf") then taken (before_body true ++ a_clause (outermost limit true) ∷ end_of_body limit ∷ [])
    else stops (if is_one_of typed_words bytes then left_out typed else syntax)

abbrev pub annotated_step : ℕ → Kind → List ℕ → Step
annotated_step limit Lower bytes = language_step limit bytes
annotated_step limit Variable bytes = stops syntax
annotated_step limit Quoted bytes = stops syntax
annotated_step limit Distinct bytes = stops syntax
annotated_step limit Dollar bytes = stops syntax
annotated_step limit Number bytes = stops syntax
annotated_step limit Connective bytes = stops syntax
annotated_step limit Mark bytes = stops syntax
annotated_step limit Other bytes = stops syntax

-- ---- one step, and the run

abbrev pub step : Symbol → Lexeme → Step
step (mark bytes) token = if is_mark bytes token then taken [] else stops syntax
step (a_term s) token = term_step s token.kind token.bytes
step (maybe_arguments s) token = if is_mark (codes "(") token then takes (arguments (deeper s)) (begun s) else passes
step (more_arguments s) token =
    if is_mark (codes ",") token then taken (arguments s) else if is_mark (codes ")") token then taken [] else stops syntax
step (an_atom may_differ s) token = atom_step may_differ s token.kind token.bytes
step (maybe_applied may_differ s) token =
    if is_mark (codes "(") token then takes (arguments (deeper s) ++ maybe_equation may_differ s ∷ []) (begun s)
    else equation_step may_differ s passes token
step (maybe_equation may_differ s) token = equation_step may_differ s passes token
step (an_equation may_differ s) token = equation_step may_differ s (stops syntax) token
step (a_unit s) token = unit_step s token
step (maybe_connected s) token = connected_step s token
step (maybe_more_units sign s) token =
    if is_connective sign token then taken (a_unit s ∷ maybe_more_units sign s ∷ []) else passes
step (variables_bracket s) token =
    if is_mark (codes "[") token then takes (next_variable [] s ∷ []) (begun s) else stops syntax
step (next_variable xs s) token = variable_step xs s token.kind token.bytes
step (more_variables xs s) token =
    if is_mark (codes ",") token then taken (next_variable xs s ∷ [])
    else if is_mark (codes "]") token then taken (mark (codes ":") ∷ a_unit (binding xs s) ∷ [])
    else stops syntax
step (a_clause s) token =
    if is_mark (codes "(") token then takes (a_clause (deeper s) ∷ mark (codes ")") ∷ []) (begun s)
    else followed_by (maybe_more_literals s ∷ []) (literal_step s token)
step (a_literal s) token = literal_step s token
step (a_plain_literal s) token =
    if is_mark (codes "(") token then takes (an_atom false (deeper s) ∷ mark (codes ")") ∷ []) (begun s)
    else atom_step false s token.kind token.bytes
step (maybe_more_literals s) token =
    if is_connective (codes "|") token then taken (a_literal s ∷ maybe_more_literals s ∷ []) else passes
step a_name token = name_step token.kind token.bytes
step (a_role is_clause) token = role_step is_clause token.kind token.bytes
step (end_of_body limit) token =
    if is_mark (codes ",") token then taken (first_note limit ∷ [])
    else if is_mark (codes ")") token then taken (mark (codes ".") ∷ [])
    else stops syntax
step (first_note limit) token = note_step limit [] (open_after [] token) (stops syntax) token
step (more_notes limit unclosed) token = note_step limit unclosed (open_after unclosed token) (end_of_notes_step unclosed token) token
step (an_annotated limit) token = annotated_step limit token.kind token.bytes

-- The machine before a token: it goes on with a stack; or it has ended, and all that was to come stands before the token of
-- that place; or the token of that place is refused.
pub data Run : Type 0 where
  going : List Symbol → Run
  over : ℕ → Run
  refused : ℕ → Refusal → Run

-- the run after a symbol's step: from the place of the token, the stack below the symbol, the step, and the run in which the
-- symbol is left out
abbrev pub stepped : ℕ → List Symbol → Step → Run → Run
stepped place below (takes new None) left_out_run = going (new ++ below)
stepped place below (takes new (Some refusal)) left_out_run = refused place refusal
stepped place below passes left_out_run = left_out_run
stepped place below (stops refusal) left_out_run = refused place refusal

-- the run after a token
abbrev pub after_token : ℕ → List Symbol → Lexeme → Run
after_token place [] token = over place
after_token place (s ∷ ss) token = stepped place ss (step s token) (after_token place ss token)

-- the end of a reading: all that was to come stands before the token of that place; the token of that place is refused; or the tokens run out
pub data Verdict : Type 0 where
  read_up_to : ℕ → Verdict
  refused_at : ℕ → Refusal → Verdict
  ran_out : Verdict

-- the verdict on the tokens, the first of which has that place
abbrev pub verdict : ℕ → Run → List Lexeme → Verdict
verdict place (over end) tokens = read_up_to end
verdict place (refused at refusal) tokens = refused_at at refusal
verdict place (going []) tokens = read_up_to place
verdict place (going (s ∷ ss)) [] = ran_out
verdict place (going (s ∷ ss)) (t ∷ ts) = verdict (suc place) (after_token place (s ∷ ss) t) ts
