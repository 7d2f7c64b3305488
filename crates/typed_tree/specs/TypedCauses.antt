-- Why a token is refused where it stands in a typed entry, though the grammar allows it there, as for untyped formulas. A quantifier
-- begins no level of nesting by itself, and each of its variables begins two, as the translation writes them: `X` in `! [X: s] : F`
-- stands for `! [X] : (ty(X) => F)`. These end with the quantifier's unit; the bracket of the variables is a level up to its end.
use Rattle.std.specs.Prelude.{ℕ, false, List, [], ◌∷◌, Option, None, Some}
use Rattle.tptp_tree.specs.Entries.{role_of}
use Rattle.tptp_tree.specs.Causes.{Refusal, bound_ones, Surroundings, deeper, binding, begun, atom_causes, untaken_role_cause, notes_part_causes}
use Rattle.typed_tree.specs.TypedSpelling.{SortPhrase, VariablePhrase, VariablePhrases, UnitPhrase, negated, bound, in_brackets, atomic, UnitPhrases, no_units, unit_then, Phrase, alone, all_of, some_of, joined_by, ArgumentsPhrase, one_argument, arguments_in_brackets, TypePhrase, kind_of_sorts, constant_of, proposition, function_from, predicate_from, DeclarationPhrase, declares, declaration_in_brackets}
use Rattle.typed_tree.specs.TypedEntries.{BodyPhrase, declaration_body, formula_body, TypedPhrase}

-- ---- variables

-- the surroundings after a variable, which begins two levels
abbrev pub after_variable : Surroundings → Surroundings
after_variable s = deeper (deeper s)

-- the cause for a variable: too deep where there isn't room for both levels
abbrev pub variable_begun : Surroundings → Option Refusal
variable_begun s = begun (deeper s)

abbrev pub sort_part_causes : Option SortPhrase → List (Option Refusal) → List (Option Refusal)
sort_part_causes None rest = rest
sort_part_causes (Some s) rest = None ∷ None ∷ rest

-- the variables after the first, each with the comma before it
abbrev pub more_variables_causes : Surroundings → List VariablePhrase → List (Option Refusal) → List (Option Refusal)
more_variables_causes s [] rest = rest
more_variables_causes s (x ∷ xs) rest =
    None ∷ variable_begun s ∷ sort_part_causes x.sort (more_variables_causes (after_variable s) xs rest)

abbrev pub names_of : List VariablePhrase → List (List ℕ)
names_of [] = []
names_of (x ∷ xs) = x.name ∷ names_of xs

abbrev pub all_names_of : VariablePhrases → List (List ℕ)
all_names_of xs = xs.first.name ∷ names_of xs.others

-- the surroundings after some variables
abbrev pub after_variables : Surroundings → List VariablePhrase → Surroundings
after_variables s [] = s
after_variables s (x ∷ xs) = after_variables (after_variable s) xs

-- the surroundings inside a quantifier
abbrev pub inside_quantifier : Surroundings → VariablePhrases → Surroundings
inside_quantifier s xs = binding (all_names_of xs) (after_variables (after_variable s) xs.others)

-- ---- formulas

abbrev mutual
  pub unit_causes : Surroundings → UnitPhrase → List (Option Refusal) → List (Option Refusal)
  unit_causes s (negated u) rest = begun s ∷ unit_causes (deeper s) u rest
  unit_causes s (bound q xs u) rest =
      None ∷ begun s ∷ variable_begun (deeper s)
      ∷ sort_part_causes xs.first.sort
      (more_variables_causes (after_variable (deeper s)) xs.others (None ∷ None ∷ unit_causes (inside_quantifier s xs) u rest))
  unit_causes s (in_brackets p) rest = begun s ∷ phrase_causes (deeper s) p (None ∷ rest)
  unit_causes s (atomic a) rest = atom_causes s a rest

  pub units_causes : Surroundings → UnitPhrases → List (Option Refusal) → List (Option Refusal)
  units_causes s no_units rest = rest
  units_causes s (unit_then u us) rest = None ∷ unit_causes s u (units_causes s us rest)

  pub phrase_causes : Surroundings → Phrase → List (Option Refusal) → List (Option Refusal)
  phrase_causes s (alone u) rest = unit_causes s u rest
  phrase_causes s (all_of u v us) rest = unit_causes s u (None ∷ unit_causes s v (units_causes s us rest))
  phrase_causes s (some_of u v us) rest = unit_causes s u (None ∷ unit_causes s v (units_causes s us rest))
  phrase_causes s (joined_by c u v) rest = unit_causes s u (None ∷ unit_causes s v rest)

-- ---- declarations: a bracket begins a level up to the one that closes it

abbrev pub more_sorts_causes : List SortPhrase → List (Option Refusal) → List (Option Refusal)
more_sorts_causes [] rest = rest
more_sorts_causes (s ∷ ss) rest = None ∷ None ∷ more_sorts_causes ss rest

abbrev pub arguments_causes : Surroundings → ArgumentsPhrase → List (Option Refusal) → List (Option Refusal)
arguments_causes s (one_argument a) rest = None ∷ rest
arguments_causes s (arguments_in_brackets a bs) rest = begun s ∷ None ∷ more_sorts_causes bs (None ∷ rest)

abbrev pub type_causes : Surroundings → TypePhrase → List (Option Refusal) → List (Option Refusal)
type_causes s kind_of_sorts rest = None ∷ rest
type_causes s (constant_of r) rest = None ∷ rest
type_causes s proposition rest = None ∷ rest
type_causes s (function_from a r) rest = arguments_causes s a (None ∷ None ∷ rest)
type_causes s (predicate_from a) rest = arguments_causes s a (None ∷ None ∷ rest)

abbrev pub declaration_causes : Surroundings → DeclarationPhrase → List (Option Refusal) → List (Option Refusal)
declaration_causes s (declares w t) rest = None ∷ None ∷ type_causes s t rest
declaration_causes s (declaration_in_brackets d) rest = begun s ∷ declaration_causes (deeper s) d (None ∷ rest)

-- ---- entries

-- the surroundings of an entry's body
abbrev pub outermost : ℕ → Surroundings
outermost limit = record { limit = limit; level = 0; scope = bound_ones [] }

-- A declaration's role is no form that is left out.
abbrev pub role_cause : BodyPhrase → Option Refusal
role_cause (declaration_body d) = None
role_cause (formula_body word p) = untaken_role_cause (role_of false word) word

abbrev pub body_causes : ℕ → BodyPhrase → List (Option Refusal) → List (Option Refusal)
body_causes limit (declaration_body d) rest = declaration_causes (outermost limit) d rest
body_causes limit (formula_body word p) rest = phrase_causes (outermost limit) p rest

-- the causes for the tokens of an entry: `tff ( NAME , ROLE , BODY NOTES ) .`
abbrev pub typed_causes : ℕ → TypedPhrase → List (Option Refusal)
typed_causes limit p =
    None ∷ None ∷ None ∷ None ∷ role_cause p.body ∷ None
    ∷ body_causes limit p.body (notes_part_causes limit p.notes (None ∷ None ∷ []))
