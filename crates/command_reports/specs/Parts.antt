-- The clauses with which a proof begins: those of a problem's clausal form, or of the formulas that an axiom selection keeps.
use Rattle.std.specs.Prelude.{◌≡◌, ◌⊎◌, ℕ, ◌-◌, List, length, Option, None, Some}
use Rattle.fol_base.specs.Clause.{TreeClause}
use Rattle.tptp_tree.specs.declared.problem.Annotated.{Annotated}
use Rattle.signature.specs.Form.{clausal_form}
use Rattle.kernel_steps.specs.declared.step.Line.{Line}
use Rattle.axiom_filter.specs.Selection.{kept_places}
use Rattle.axiom_filter.specs.Restriction.{kept_clauses, kept_numbers, reindexed}
use Rattle.command_words.specs.declared.command.AxiomSelection.{AxiomSelection}

-- ---- the part of a form that comes from the formulas at some places

abbrev pub part_clauses : List ℕ → List Annotated → List TreeClause
part_clauses kept formulas = kept_clauses kept (clausal_form formulas).origins (clausal_form formulas).clauses

-- the numbers of these clauses in the form
abbrev pub part_numbers : List ℕ → List Annotated → List ℕ
part_numbers kept formulas = kept_numbers kept (clausal_form formulas).origins

-- clauses are the whole form's, or those of such a part
abbrev pub AreOfForm : List Annotated → List TreeClause → Type 0
AreOfForm formulas inputs = (inputs ≡ (clausal_form formulas).clauses) ⊎ ((kept : List ℕ) × (inputs ≡ part_clauses kept formulas))

-- the clauses are those of a part that has these numbers
pub record IsNumberedPart (formulas : List Annotated) (inputs : List TreeClause) (numbers : List ℕ) : Type 0 where
  pub kept : List ℕ
  pub inputs_are : inputs ≡ part_clauses kept formulas
  pub numbers_are : numbers ≡ part_numbers kept formulas

-- or the whole form's
abbrev pub AreNumbered : List Annotated → List TreeClause → Option (List ℕ) → Type 0
AreNumbered formulas inputs None = inputs ≡ (clausal_form formulas).clauses
AreNumbered formulas inputs (Some numbers) = IsNumberedPart formulas inputs numbers

-- ---- by a selection, where one is given

abbrev pub kept_by : AxiomSelection → List Annotated → List ℕ
kept_by selection formulas = kept_places selection.tolerance selection.depth formulas

-- the clauses with which the proof begins
abbrev pub inputs_by : Option AxiomSelection → List Annotated → List TreeClause
inputs_by None formulas = (clausal_form formulas).clauses
inputs_by (Some selection) formulas = part_clauses (kept_by selection formulas) formulas

-- their numbers in the form, where they are those of a part
abbrev pub numbers_by : Option AxiomSelection → List Annotated → Option (List ℕ)
numbers_by None formulas = None
numbers_by (Some selection) formulas = Some (part_numbers (kept_by selection formulas) formulas)

-- lines of a derivation from these clauses, as lines of one from the whole form: clausify steps have the numbers there
abbrev pub renumbered : Option (List ℕ) → List Line → List Line
renumbered None lines = lines
renumbered (Some numbers) lines = reindexed numbers lines

abbrev pub lines_by : Option AxiomSelection → List Annotated → List Line → List Line
lines_by axioms formulas lines = renumbered (numbers_by axioms formulas) lines

-- how many formulas are left out
abbrev pub left_out : Option AxiomSelection → List Annotated → ℕ
left_out None formulas = 0
left_out (Some selection) formulas = length formulas - length (kept_by selection formulas)

-- ---- laws

-- Where no formula is left out, the proof begins with the whole form.
abbrev pub NothingLeftOutIsWhole : Type 0
NothingLeftOutIsWhole =
    (axioms : Option AxiomSelection) (formulas : List Annotated) → left_out axioms formulas ≡ 0
    → inputs_by axioms formulas ≡ (clausal_form formulas).clauses
