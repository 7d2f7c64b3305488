-- Equal formulas of a problem: those that agree in name, role, kind and formula.
use Rattle.std.specs.Prelude.{◌≡◌, ◌==◌, ℕ, Bool, false, List, map, Option, None, Some, option_map, option_and_then, unwrap_or, slice_get, position}
use Rattle.tptp_tree.specs.declared.problem.Annotated.{Annotated}
use Rattle.clausal_form.specs.DerivationLine.{same_entry}
use Rattle.tptp_tree.specs.Shape.{entry_of}
use Rattle.tstp_checker.specs.declared.classes.Classes.{Classes}

-- the place of the first formula that equals a formula
abbrev pub class_of : List Annotated → Annotated → Option ℕ
class_of fs f = position (λ b. same_entry (entry_of f) (entry_of b)) fs

abbrev pub same_place : Option ℕ → Option ℕ → Bool
same_place None other = false
same_place (Some p) None = false
same_place (Some p) (Some q) = p == q

-- whether the formulas at two places are equal
abbrev pub same_at : List Annotated → ℕ → ℕ → Bool
same_at fs p q =
    unwrap_or (option_and_then (λ a. option_map (same_entry a) (option_map entry_of (slice_get fs q))) (option_map entry_of (slice_get fs p))) false

abbrev pub AreClasses : List Annotated → Classes → Type 0
AreClasses fs x = (x.firsts).items ≡ map (class_of fs) fs
