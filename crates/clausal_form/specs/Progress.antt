-- The state of the program's work on a clausal form after some formulas.
use Rattle.std.specs.Prelude.{◌≡◌, ⊤, ℕ, ◌+◌, nat_lt, min, List, [], ◌∷◌, ◌++◌, length, map, None, Some, if◌then◌else◌}
use Rattle.signature.specs.declared.symbol.Symbol.{Symbol}
use Rattle.signature.specs.Symbol.{function_symbol}
use Rattle.signature.specs.Occurrences.{problem_symbols}
use Rattle.signature.specs.Clausal.{SymbolNumbers, Made, Formed, annotated_clauses, canonical_literals, formed}
use Rattle.signature.specs.Form.{numbered_symbols, problem_skolem_count, nothing_made}
use Rattle.formula_nnf.specs.Expanded.{expanded_count}
use Rattle.tptp_tree.specs.Shape.{formula_of}
use Rattle.tptp_tree.specs.declared.problem.Annotated.{Annotated}
use Rattle.fol_base.specs.Literal.{clause_of}
use Rattle.clausal_form.specs.Agenda.{placed}
use Rattle.clausal_form.specs.Formula.{form_by_itself}
use Rattle.clausal_form.specs.Fault.{formula_fault, counted_in}
use Rattle.clausal_form.specs.declared.fault.FormFault.{FormFault}
use Rattle.clausal_form.specs.declared.fault.FormFault.TheVariants.{NoMemory, Refused}
use Rattle.clausal_form.specs.declared.form.FormSoFar.{FormSoFar}
use Rattle.fol_base.specs.declared.limits.TheConstants.{MOST_FORM_SYMBOLS}
use Rattle.clausal_form.specs.declared.fault.TheConstants.{MOST_EXPANDED}

-- The state has the symbols that were made so far: the Skolem symbols stand after the problem's, and the names are counted.
pub record HasMade (n : SymbolNumbers) (prefix : List ℕ) (m : Made) (f : FormSoFar) : Type 0 where
  pub signature : f.signature ≡ n.symbols ++ numbered_symbols function_symbol prefix 0 m.skolem_arities
  pub skolem : n.first_skolem ≡ length n.symbols
  pub next : f.next ≡ length m.skolem_arities
  pub first : f.naming.first ≡ n.first_naming
  pub naming : f.naming.arities.items ≡ m.naming_arities

-- A formula's clauses are added, and it passes no limit. Its Skolem symbols are still to be added.
pub record IsAddition (n : SymbolNumbers) (a : Annotated) (place : ℕ) (m : Made) (old new : FormSoFar) : Type 0 where
  pub skolem : (annotated_clauses n a m).made.skolem_arities ≡ m.skolem_arities ++ (form_by_itself old.signature a).made.skolem_arities
  pub naming : (annotated_clauses n a m).made.naming_arities ≡ new.naming.arities.items
  pub clauses : map clause_of new.output.clauses.items ≡ map clause_of old.output.clauses.items ++ map canonical_literals (annotated_clauses n a m).clauses
  pub origins : new.output.origins.items ≡ old.output.origins.items ++ map (placed place) (annotated_clauses n a m).clauses
  pub counted : new.counted ≡ old.counted + counted_in (annotated_clauses n a m).clauses
  pub within : formula_fault n a old.counted m ≡ None

-- A formula's clauses are added, and it passes no limit.
pub record IsStep (n : SymbolNumbers) (a : Annotated) (place : ℕ) (prefix : List ℕ) (m : Made) (old new : FormSoFar) : Type 0 where
  pub made : HasMade n prefix (annotated_clauses n a m).made new
  pub clauses : map clause_of new.output.clauses.items ≡ map clause_of old.output.clauses.items ++ map canonical_literals (annotated_clauses n a m).clauses
  pub origins : new.output.origins.items ≡ old.output.origins.items ++ map (placed place) (annotated_clauses n a m).clauses
  pub counted : new.counted ≡ old.counted + counted_in (annotated_clauses n a m).clauses
  pub within : formula_fault n a old.counted m ≡ None

-- out of memory, or the formula's fault with its name
abbrev pub IsRefusal : SymbolNumbers → Annotated → Made → ℕ → FormFault → Type 0
IsRefusal n a m counted NoMemory = ⊤
IsRefusal n a m counted (Refused cause name) = (formula_fault n a counted m ≡ Some cause) × (name ≡ a.name)

-- ---- the formulas of a problem

-- nothing is written yet
pub record IsEmpty (f : FormSoFar) : Type 0 where
  pub clauses : map clause_of f.output.clauses.items ≡ []
  pub origins : f.output.origins.items ≡ []
  pub counted : f.counted ≡ 0

-- the formulas before the first that is too large when it is written out
abbrev pub expandable : List Annotated → List Annotated
expandable [] = []
expandable (a ∷ fs) = if nat_lt MOST_EXPANDED (expanded_count (formula_of a.formula)) then [] else a ∷ expandable fs

-- the program's count of Skolem symbols, which stops where a form has too many
abbrev pub counted_skolem : List Annotated → ℕ
counted_skolem fs = min (problem_skolem_count (expandable fs)) MOST_FORM_SYMBOLS

-- the numbers of symbols with `skolem` Skolem symbols after them
abbrev pub numbers_with : List Symbol → ℕ → SymbolNumbers
numbers_with symbols skolem = record { symbols = symbols; first_skolem = length symbols; first_naming = length symbols + skolem }

-- The numbers of the symbols by that count. Where no formula passes a limit, they are those of the clausal form.
abbrev pub counted_numbers : List Annotated → SymbolNumbers
counted_numbers fs = numbers_with (problem_symbols fs) (counted_skolem fs)

abbrev pub formed_formulas : List Annotated → Formed
formed_formulas fs = formed (counted_numbers fs) 0 fs nothing_made

-- all formulas are added
pub record IsFormed (fs : List Annotated) (prefix : List ℕ) (f : FormSoFar) : Type 0 where
  pub made : HasMade (counted_numbers fs) prefix (formed_formulas fs).made f
  pub clauses : map clause_of f.output.clauses.items ≡ (formed_formulas fs).clauses
  pub origins : f.output.origins.items ≡ (formed_formulas fs).origins
