-- The faults of sorts and types, which are looked for once the whole problem is read: a sort that isn't declared, a word that is
-- declared again as something else, and a term of another sort than is wanted. Each word and each variable of an entry's body has a
-- cause or none, in the order of the tokens; the first in reading order is the problem's.
use Rattle.std.specs.Prelude.{ℕ, List, [], ◌∷◌, ◌++◌, Option, None, Some, bytes_eq, if◌then◌else◌}
use Rattle.tptp_tree.specs.Term.{TermTree, variable, application, TermTrees, no_terms, term_then}
use Rattle.signature.specs.Occurrences.{terms_count}
use Rattle.typed_tree.specs.declared.cause.TypedCause.{TypedCause}
use Rattle.typed_tree.specs.declared.cause.TypedCause.TheVariants.{UnknownSort, TwoTypes, SortClash}
use Rattle.typed_tree.specs.Sorts.{SortTree, individuals, named_sort, same_sort, Declared, a_sort, a_symbol, same_declared, DeclarationTree}
use Rattle.typed_tree.specs.TypedFormula.{TypedVariable, TypedTree, truth, falsity, predicate, equation, negation, conjunction, disjunction, connected, quantified, TypedTrees, no_formulas, formula_then}
use Rattle.typed_tree.specs.TypedEntries.{BodyTree, declaration_tree, formula_tree}
use Rattle.typed_problem.specs.Declarations.{Entries, with_declaration, declarations_of, declared_as, is_sort, function_type, predicate_type, result_of}

abbrev pub Causes : Type 0
Causes = List (Option TypedCause)

-- ---- sorts

-- A sort that isn't `$i` is a word.
abbrev pub sort_causes : List DeclarationTree → SortTree → Causes → Causes
sort_causes ds individuals rest = rest
sort_causes ds (named_sort word) rest = (if is_sort ds (named_sort word) then None else Some UnknownSort) ∷ rest

abbrev pub sorts_causes : List DeclarationTree → List SortTree → Causes → Causes
sorts_causes ds [] rest = rest
sorts_causes ds (s ∷ ss) rest = sort_causes ds s (sorts_causes ds ss rest)

abbrev pub result_causes : List DeclarationTree → Option SortTree → Causes → Causes
result_causes ds None rest = rest
result_causes ds (Some s) rest = sort_causes ds s rest

-- ---- declarations

-- The word has a cause where an earlier declaration makes it something else.
abbrev pub repeated_cause : Option Declared → Declared → Option TypedCause
repeated_cause None declared = None
repeated_cause (Some earlier) declared = if same_declared earlier declared then None else Some TwoTypes

abbrev pub declared_causes : List DeclarationTree → Declared → Causes
declared_causes ds a_sort = []
declared_causes ds (a_symbol t) = sorts_causes ds t.arguments (result_causes ds t.result [])

abbrev pub declaration_causes : List DeclarationTree → List DeclarationTree → DeclarationTree → Causes
declaration_causes ds earlier d = repeated_cause (declared_as earlier d.word) d.declared ∷ declared_causes ds d.declared

-- ---- terms

-- the variables in force with their sorts, the innermost first
abbrev pub Sorting : Type 0
Sorting = List TypedVariable

-- A typed formula has no free variable; `$i` stands for its sort.
abbrev pub sort_in_force : Sorting → List ℕ → SortTree
sort_in_force [] x = individuals
sort_in_force (v ∷ vs) x = if bytes_eq v.name x then v.sort else sort_in_force vs x

abbrev pub term_sort : List DeclarationTree → Sorting → TermTree → SortTree
term_sort ds vs (variable x) = sort_in_force vs x
term_sort ds vs (application f ts) = result_of (function_type ds f (terms_count ts))

-- the cause for the first token of a term, where a sort is wanted
abbrev pub clash : List DeclarationTree → Sorting → Option SortTree → TermTree → Option TypedCause
clash ds vs None t = None
clash ds vs (Some wanted) t = if same_sort wanted (term_sort ds vs t) then None else Some SortClash

-- the sort that is wanted of the next argument, and those of the arguments after it
abbrev pub next_wanted : List SortTree → Option SortTree
next_wanted [] = None
next_wanted (s ∷ ss) = Some s

abbrev pub later_wanted : List SortTree → List SortTree
later_wanted [] = []
later_wanted (s ∷ ss) = ss

abbrev mutual
  pub term_causes : List DeclarationTree → Sorting → Option SortTree → TermTree → Causes → Causes
  term_causes ds vs wanted (variable x) rest = clash ds vs wanted (variable x) ∷ rest
  term_causes ds vs wanted (application f ts) rest =
      clash ds vs wanted (application f ts) ∷ terms_causes ds vs (function_type ds f (terms_count ts)).arguments ts rest

  -- arguments, of which these sorts are wanted
  pub terms_causes : List DeclarationTree → Sorting → List SortTree → TermTrees → Causes → Causes
  terms_causes ds vs wanted no_terms rest = rest
  terms_causes ds vs wanted (term_then t ts) rest =
      term_causes ds vs (next_wanted wanted) t (terms_causes ds vs (later_wanted wanted) ts rest)

-- ---- formulas

abbrev pub variables_causes : List DeclarationTree → List TypedVariable → Causes → Causes
variables_causes ds [] rest = rest
variables_causes ds (v ∷ vs) rest = None ∷ sort_causes ds v.sort (variables_causes ds vs rest)

-- the variables in force inside a quantifier: of two variables of one name the later one hides the earlier
abbrev pub inside : List TypedVariable → Sorting → Sorting
inside [] vs = vs
inside (x ∷ xs) vs = inside xs (x ∷ vs)

-- Of an equation the right side is to have the sort of the left one.
abbrev mutual
  pub formula_causes : List DeclarationTree → Sorting → TypedTree → Causes → Causes
  formula_causes ds vs truth rest = rest
  formula_causes ds vs falsity rest = rest
  formula_causes ds vs (predicate p ts) rest = None ∷ terms_causes ds vs (predicate_type ds p (terms_count ts)).arguments ts rest
  formula_causes ds vs (equation positive s t) rest =
      term_causes ds vs None s (term_causes ds vs (Some (term_sort ds vs s)) t rest)
  formula_causes ds vs (negation f) rest = formula_causes ds vs f rest
  formula_causes ds vs (conjunction fs) rest = formulas_causes ds vs fs rest
  formula_causes ds vs (disjunction fs) rest = formulas_causes ds vs fs rest
  formula_causes ds vs (connected c f g) rest = formula_causes ds vs f (formula_causes ds vs g rest)
  formula_causes ds vs (quantified q xs f) rest = variables_causes ds xs (formula_causes ds (inside xs vs) f rest)

  pub formulas_causes : List DeclarationTree → Sorting → TypedTrees → Causes → Causes
  formulas_causes ds vs no_formulas rest = rest
  formulas_causes ds vs (formula_then f fs) rest = formula_causes ds vs f (formulas_causes ds vs fs rest)

-- ---- entries

-- the causes of the words and variables of an entry's body: by all declarations of the problem, and by those before the entry
abbrev pub body_causes : List DeclarationTree → List DeclarationTree → BodyTree → Causes
body_causes ds earlier (declaration_tree d) = declaration_causes ds earlier d
body_causes ds earlier (formula_tree role f) = formula_causes ds [] f []

-- a cause, the name of a file and a place in it
pub record SortFault : Type 0 where
  pub cause : TypedCause
  pub file : List ℕ
  pub place : ℕ

-- the first cause of a file's tokens, at those places
abbrev pub first_fault : List ℕ → Causes → List ℕ → Option SortFault
first_fault file [] places = None
first_fault file (c ∷ cs) [] = None
first_fault file (None ∷ cs) (p ∷ ps) = first_fault file cs ps
first_fault file (Some cause ∷ cs) (p ∷ ps) = Some (record { cause = cause; file = file; place = p })

abbrev pub or_later : Option SortFault → Option SortFault → Option SortFault
or_later None later = later
or_later (Some fault) later = Some fault

abbrev pub fault_among : List DeclarationTree → List DeclarationTree → Entries → Option SortFault
fault_among ds earlier [] = None
fault_among ds earlier (e ∷ es) =
    or_later (first_fault e.file (body_causes ds earlier e.tree.body) e.tree.places)
    (fault_among ds (earlier ++ with_declaration e.tree.body []) es)

-- the problem's first fault of sorts and types, if it has one
abbrev pub sort_fault : Entries → Option SortFault
sort_fault es = fault_among (declarations_of es) [] es
