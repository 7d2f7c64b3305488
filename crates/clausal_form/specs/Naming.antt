-- The state of the program's naming: the names that were made, and the matrices for which they stand.
use Rattle.std.specs.Prelude.{◌≡◌, ⊤, ℕ, ◌<◌, List, [], ◌∷◌, map, flat_map}
use Rattle.fol_base.specs.declared.limits.TheConstants.{MOST_SYMBOLS}
use Rattle.signature.specs.Clausal.{SymbolNumbers, Made, Worked, Literals}
use Rattle.skolem.specs.Shape.{matrix_tree}
use Rattle.clausal_form.specs.Written.{written}
use Rattle.clausal_form.specs.Measure.{measure_of, capped_measured, largest}
use Rattle.clausal_form.specs.declared.measure.Measure.{Measure}
use Rattle.clausal_form.specs.declared.naming.Definition.{Definition}
use Rattle.clausal_form.specs.declared.naming.Naming.{Naming}
use Rattle.clausal_form.specs.declared.naming.NamingEnd.{NamingEnd}
use Rattle.clausal_form.specs.declared.naming.NamingEnd.TheVariants.{NoMemory, TooHeavy}

-- the negated atom of the name before each clause
abbrev pub definition_clauses : Definition → List Literals
definition_clauses d = map (λ c. d.negated ∷ c) (written (matrix_tree d.matrix))

abbrev pub defining_clauses : Naming → List Literals
defining_clauses s = flat_map definition_clauses s.definitions.items

-- Naming doesn't look at variables and Skolem symbols.
abbrev pub naming_made : Naming → Made
naming_made s = record { variables = 0; skolem_arities = []; naming_arities = s.arities.items; defining = defining_clauses s }

abbrev pub naming_numbers : ℕ → SymbolNumbers
naming_numbers first = record { symbols = []; first_skolem = 0; first_naming = first }

abbrev pub IsMeasured : Measure → List Literals → Type 0
IsMeasured a cs = measure_of a ≡ capped_measured cs

-- The program's clauses are those of the work on a formula, and are measured; so are the defining clauses.
pub record IsWork (s : Naming) (w : Worked) (cs : List Literals) (a : Measure) : Type 0 where
  pub clauses : cs ≡ w.clauses
  pub made : naming_made s ≡ w.made
  pub measured : IsMeasured a cs
  pub defining : IsMeasured s.measure (defining_clauses s)

-- the cause for which naming ended before it had all clauses that define names: out of memory, or one of them is over the limit
abbrev pub IsEnd : NamingEnd → List Literals → Type 0
IsEnd NoMemory defining = ⊤
IsEnd TooHeavy defining = MOST_SYMBOLS < largest defining
