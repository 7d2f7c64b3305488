-- Why a token is refused where it stands in an annotated formula, though the grammar allows it there: it is a variable that no
-- quantifier binds, a role that isn't taken, or begins a level of nesting over the limit. For each token of a phrase there is such
-- a cause or none, in the order of the tokens. `rest` is the causes of the tokens after the phrase.
use Rattle.std.specs.Prelude.{ℕ, suc, nat_lt, Bool, true, false, List, [], ◌∷◌, ◌++◌, length, codes, bytes_eq, Option, None, Some, if◌then◌else◌}
use Rattle.std.specs.List.{list_any}
use Rattle.tptp_token.specs.Spelling.{is_one_of}
use Rattle.tptp_token.specs.Lexemes.{Lexeme}
use Rattle.tptp_tree.specs.declared.role.Role.{Role}
use Rattle.tptp_tree.specs.Brackets.{Bracket, opened, open_after}
use Rattle.tptp_tree.specs.Spelling.{TermPhrase, variable_word, word_with, TermPhrases, no_phrases, phrase_then, Atom, true_atom, false_atom, predicate_atom, equation_atom, UnitPhrase, negated, bound, in_brackets, atomic, UnitPhrases, no_units, unit_then, Phrase, alone, all_of, some_of, joined_by}
use Rattle.tptp_tree.specs.Entries.{atom_of, LiteralPhrase, positive_literal, negated_literal, negated_in_brackets, ClausePhrase, literals, clause_in_brackets, role_of, Body, formula_body, clause_body, is_clause_body, AnnotatedPhrase}

-- forms of the TPTP that the profile leaves out: types, roles, numbers, distinct objects and words with `$`
pub data Form : Type 0 where
  typed : Form
  role_form : Form
  number_form : Form
  distinct_form : Form
  dollar_form : Form

-- why a token ends the reading
pub data Refusal : Type 0 where
  syntax : Refusal
  free_variable : Refusal
  role_not_taken : Refusal
  too_deep : Refusal
  left_out : Form → Refusal

-- the variables that may occur: all in a clause, and in a formula those that a quantifier around them binds
pub data Scope : Type 0 where
  every_variable : Scope
  bound_ones : List (List ℕ) → Scope

-- the scope inside a quantifier that binds these variables
abbrev pub scope_with : Scope → List (List ℕ) → Scope
scope_with every_variable xs = every_variable
scope_with (bound_ones ys) xs = bound_ones (xs ++ ys)

-- the surroundings of a token: how deep it may be nested, how deep it is, and which variables may occur
pub record Surroundings : Type 0 where
  pub limit : ℕ
  pub level : ℕ
  pub scope : Scope

-- the surroundings one level further in
abbrev pub deeper : Surroundings → Surroundings
deeper s = record { limit = s.limit; level = suc s.level; scope = s.scope }

-- the surroundings inside a quantifier that binds these variables
abbrev pub binding : List (List ℕ) → Surroundings → Surroundings
binding xs s = record { limit = s.limit; level = s.level; scope = scope_with s.scope xs }

-- the cause for a token that begins a level: too deep where the limit is reached
abbrev pub begun : Surroundings → Option Refusal
begun s = if nat_lt s.level s.limit then None else Some too_deep

-- the cause for a variable: free where the scope doesn't have it
abbrev pub variable_cause : Scope → List ℕ → Option Refusal
variable_cause every_variable x = None
variable_cause (bound_ones xs) x = if list_any (bytes_eq x) xs then None else Some free_variable

-- ---- terms and atoms: a round bracket begins a level, up to the one that closes it

-- The causes for the tokens of a term, of arguments with their brackets, and of the arguments after the first: in `f(X,a)`, `(` may
-- have the cause of a level and `X` that of a variable, and the other tokens have none.
abbrev mutual
  pub term_causes : Surroundings → TermPhrase → List (Option Refusal) → List (Option Refusal)
  term_causes s (variable_word x) rest = variable_cause s.scope x ∷ rest
  term_causes s (word_with w ts) rest = None ∷ arguments_causes s ts rest

  pub arguments_causes : Surroundings → TermPhrases → List (Option Refusal) → List (Option Refusal)
  arguments_causes s no_phrases rest = rest
  arguments_causes s (phrase_then t ts) rest = begun s ∷ term_causes (deeper s) t (more_arguments_causes (deeper s) ts rest)

  -- each argument with the comma before it, and the closing bracket
  pub more_arguments_causes : Surroundings → TermPhrases → List (Option Refusal) → List (Option Refusal)
  more_arguments_causes s no_phrases rest = None ∷ rest
  more_arguments_causes s (phrase_then t ts) rest = None ∷ term_causes s t (more_arguments_causes s ts rest)

-- the causes for the tokens of an atom: `$true`, `p(X)` or `X = a`
abbrev pub atom_causes : Surroundings → Atom → List (Option Refusal) → List (Option Refusal)
atom_causes s true_atom rest = None ∷ rest
atom_causes s false_atom rest = None ∷ rest
atom_causes s (predicate_atom w ts) rest = None ∷ arguments_causes s ts rest
atom_causes s (equation_atom positive l r) rest = term_causes s l (None ∷ term_causes s r rest)

-- ---- formulas: `~` and a quantifier begin a level up to the end of their unit, and so does the bracket of a quantifier's
-- variables up to the one that closes it

-- the variables of a quantifier after the first, each with the comma before it: none has a cause
abbrev pub more_variables_causes : List (List ℕ) → List (Option Refusal) → List (Option Refusal)
more_variables_causes [] rest = rest
more_variables_causes (x ∷ xs) rest = None ∷ None ∷ more_variables_causes xs rest

-- the causes for the tokens of a unit, of the units after the second, and of a formula
abbrev mutual
  pub unit_causes : Surroundings → UnitPhrase → List (Option Refusal) → List (Option Refusal)
  unit_causes s (negated u) rest = begun s ∷ unit_causes (deeper s) u rest
  unit_causes s (bound q xs u) rest =
      begun s ∷ begun (deeper s)
      ∷ None ∷ more_variables_causes xs.others (None ∷ None ∷ unit_causes (binding (xs.first ∷ xs.others) (deeper s)) u rest)
  unit_causes s (in_brackets p) rest = begun s ∷ phrase_causes (deeper s) p (None ∷ rest)
  unit_causes s (atomic a) rest = atom_causes s a rest

  -- each unit with the sign before it
  pub units_causes : Surroundings → UnitPhrases → List (Option Refusal) → List (Option Refusal)
  units_causes s no_units rest = rest
  units_causes s (unit_then u us) rest = None ∷ unit_causes s u (units_causes s us rest)

  pub phrase_causes : Surroundings → Phrase → List (Option Refusal) → List (Option Refusal)
  phrase_causes s (alone u) rest = unit_causes s u rest
  phrase_causes s (all_of u v us) rest = unit_causes s u (None ∷ unit_causes s v (units_causes s us rest))
  phrase_causes s (some_of u v us) rest = unit_causes s u (None ∷ unit_causes s v (units_causes s us rest))
  phrase_causes s (joined_by c u v) rest = unit_causes s u (None ∷ unit_causes s v rest)

-- ---- clauses

-- the causes for the tokens of a literal: `p(X)`, `~p(X)` or `~(p(X))`
abbrev pub literal_causes : Surroundings → LiteralPhrase → List (Option Refusal) → List (Option Refusal)
literal_causes s (positive_literal a) rest = atom_causes s a rest
literal_causes s (negated_literal a) rest = begun s ∷ atom_causes (deeper s) (atom_of a) rest
literal_causes s (negated_in_brackets a) rest =
    begun s ∷ begun (deeper s) ∷ atom_causes (deeper (deeper s)) (atom_of a) (None ∷ rest)

-- the causes for the literals after the first, each with the `|` before it
abbrev pub more_literals_causes : Surroundings → List LiteralPhrase → List (Option Refusal) → List (Option Refusal)
more_literals_causes s [] rest = rest
more_literals_causes s (l ∷ ls) rest = None ∷ literal_causes s l (more_literals_causes s ls rest)

-- the causes for the tokens of a clause, with its brackets if it has any
abbrev pub clause_causes : Surroundings → ClausePhrase → List (Option Refusal) → List (Option Refusal)
clause_causes s (literals l ls) rest = literal_causes s l (more_literals_causes s ls rest)
clause_causes s (clause_in_brackets c) rest = begun s ∷ clause_causes (deeper s) c (None ∷ rest)

-- ---- annotated formulas

-- roles of the TPTP that are left out
abbrev pub roles_left_out : List (List ℕ)
roles_left_out = codes "question" ∷ codes "type" ∷ codes "fi_domain" ∷ codes "fi_functors" ∷ codes "fi_predicates" ∷ []

-- the cause for a role's word, by the role that it names: none where it names one
abbrev pub untaken_role_cause : Option Role → List ℕ → Option Refusal
untaken_role_cause (Some role) word = None
untaken_role_cause None word = if is_one_of roles_left_out word then Some (left_out role_form) else Some role_not_taken

-- the cause for a role's word in `cnf` (true) or in `fof` (false)
abbrev pub role_cause : Bool → List ℕ → Option Refusal
role_cause is_clause word = untaken_role_cause (role_of is_clause word) word

-- the surroundings of the body of an annotated formula, in `cnf` (true) or in `fof` (false)
abbrev pub outermost : ℕ → Bool → Surroundings
outermost limit true = record { limit = limit; level = 0; scope = every_variable }
outermost limit false = record { limit = limit; level = 0; scope = bound_ones [] }

-- the causes for the tokens of a formula's body
abbrev pub body_causes : ℕ → Body → List (Option Refusal) → List (Option Refusal)
body_causes limit (formula_body p) rest = phrase_causes (outermost limit false) p rest
body_causes limit (clause_body c) rest = clause_causes (outermost limit true) c rest

-- The cause for a token of notes, where a bracket of any kind begins a level: by the limit, by how many brackets are open before the
-- token, and by the bracket that it opens.
abbrev pub note_cause : ℕ → ℕ → Option Bracket → Option Refusal
note_cause limit unclosed None = None
note_cause limit unclosed (Some b) = if nat_lt unclosed limit then None else Some too_deep

-- the causes for the tokens of notes, by the brackets that are open before them
abbrev pub notes_causes : ℕ → Option (List Bracket) → List Lexeme → List (Option Refusal)
notes_causes limit unclosed [] = []
notes_causes limit None (t ∷ ts) = []
notes_causes limit (Some unclosed) (t ∷ ts) = note_cause limit (length unclosed) (opened t) ∷ notes_causes limit (open_after unclosed t) ts

-- the causes for notes with the comma before them, or for no tokens where the notes are empty
abbrev pub notes_part_causes : ℕ → List Lexeme → List (Option Refusal) → List (Option Refusal)
notes_part_causes limit [] rest = rest
notes_part_causes limit (n ∷ ns) rest = None ∷ notes_causes limit (Some []) (n ∷ ns) ++ rest

-- the causes for the tokens of an annotated formula: `fof ( NAME , ROLE , BODY NOTES ) .`
abbrev pub annotated_causes : ℕ → AnnotatedPhrase → List (Option Refusal)
annotated_causes limit p =
    None ∷ None ∷ None ∷ None ∷ role_cause (is_clause_body p.body) p.role ∷ None
    ∷ body_causes limit p.body (notes_part_causes limit p.notes (None ∷ None ∷ []))
