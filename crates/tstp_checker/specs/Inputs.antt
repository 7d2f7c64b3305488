-- A table of a problem's formulas.
use Rattle.std.specs.Prelude.{◌≡◌, ℕ, ◌+◌, Bool, List, [], ◌∷◌, Option, None, Some, if◌then◌else◌}
use Rattle.indexmap.specs.IndexMap.{get}
use Rattle.tptp_tree.specs.declared.problem.Annotated.{Annotated}
use Rattle.clausal_form.specs.DerivationLine.{same_entry}
use Rattle.tptp_tree.specs.Shape.{entry_of}
use Rattle.tstp_checker.specs.Entries.{entry_meant, same_meant}
use Rattle.tstp_checker.specs.declared.entries.Entry.{Entry}
use Rattle.tstp_checker.specs.declared.inputs.Inputs.{Inputs}

-- the first place of a formula that passes, among those from a place on
abbrev pub first_from : (Annotated → Bool) → ℕ → List Annotated → Option ℕ
first_from P i [] = None
first_from P i (f ∷ fs) = if P f then Some i else first_from P (i + 1) fs

-- whether an entry of the table equals a formula
abbrev pub says : Entry → Annotated → Bool
says e f = same_entry (entry_meant e) (entry_of f)

abbrev pub KnowsAll : Inputs → Type 0
KnowsAll x = (e : Entry) → get same_meant x.first e ≡ first_from (says e) 0 x.formulas.now
