-- The meaning of a problem in finite interpretations (Tarski 1936), and the interpretations of its clausal form.
use Rattle.std.specs.Prelude.{◌≡◌, ℕ, ◌<◌, Bool, ◌&&◌, ◌||◌, ◌==◌, List, length, IsTrue, IsFalse}
use Rattle.std.specs.List.{AllByRecursion, list_any, list_all}
use Rattle.tptp_tree.specs.Entries.{is_conjecture}
use Rattle.tptp_tree.specs.declared.problem.Annotated.{Annotated}
use Rattle.fol_base.specs.Interpretation.{Interpretation, IsInterpretation, symbol_value, HoldsIn}
use Rattle.signature.specs.Occurrences.{problem_symbols}
use Rattle.signature.specs.Environment.{free_names, closed}
use Rattle.signature.specs.Form.{clausal_form}
use Rattle.signature.specs.Truth.{annotated_true}
use Rattle.clausal_form.specs.FormFunctions.{is_predicate_in}

-- no formula has a free variable, as in every problem that is read
abbrev pub are_closed : List Annotated → Bool
are_closed fs = list_all (λ (a : Annotated). length (free_names (closed a)) == 0) fs

-- ---- interpretations

-- an interpretation of a problem's symbols: finitely many values, and for each symbol its values on arguments
abbrev pub InterpretsProblem : List Annotated → Interpretation → Type 0
InterpretsProblem fs i = IsInterpretation (is_predicate_in (problem_symbols fs)) i

-- an interpretation of the symbols of a problem's clausal form
abbrev pub InterpretsForm : List Annotated → Interpretation → Type 0
InterpretsForm fs j = IsInterpretation (is_predicate_in (clausal_form fs).symbols) j

-- an extension of an interpretation: it has the same values, and gives each symbol of the problem the same value
pub record Extends (fs : List Annotated) (i j : Interpretation) : Type 0 where
  pub size : j.size ≡ i.size
  pub kept : (f : ℕ) → f < length (problem_symbols fs) → (vs : List ℕ) → symbol_value j f vs ≡ symbol_value i f vs

-- each clause of the clausal form is true for all values of its variables
abbrev pub FormTrue : List Annotated → Interpretation → Type 0
FormTrue fs j = AllByRecursion (HoldsIn j) (clausal_form fs).clauses

-- ---- consequence

-- all formulas but the conjecture are true
abbrev pub axioms_true : Interpretation → List Annotated → Bool
axioms_true i fs = list_all (λ (a : Annotated). is_conjecture a.role || annotated_true (problem_symbols fs) i a) fs

-- the conjecture is true, or one of them if there are more; false if there is none
abbrev pub conjecture_true : Interpretation → List Annotated → Bool
conjecture_true i fs = list_any (λ (a : Annotated). is_conjecture a.role && annotated_true (problem_symbols fs) i a) fs

-- whether a formula of the problem is a conjecture
abbrev pub has_conjecture : List Annotated → Bool
has_conjecture fs = list_any (λ (a : Annotated). is_conjecture a.role) fs

-- every finite interpretation that makes the axioms true makes the conjecture true
abbrev pub ConjectureFollows : List Annotated → Type 0
ConjectureFollows fs = (i : Interpretation) → InterpretsProblem fs i → IsTrue (axioms_true i fs) → IsTrue (conjecture_true i fs)

-- no finite interpretation makes the axioms true
abbrev pub AxiomsUnsatisfiable : List Annotated → Type 0
AxiomsUnsatisfiable fs = (i : Interpretation) → InterpretsProblem fs i → IsFalse (axioms_true i fs)
