-- Levels, as the printer and the reader have them.
use Rattle.std.specs.Prelude.{◌≡◌, ℕ, ◌*◌, ◌≤◌, Bool, true, false, List, [], Option, None, Some, ◌↔◌}
use Rattle.std.specs.List.{AllByRecursion}
use Rattle.tptp_tree.specs.Formula.{FormulaTree}
use Rattle.tptp_tree.specs.Printing.{formula_text}
use Rattle.tptp_tree.specs.Spelling.{SpellsFormula}
use Rattle.tptp_tree.specs.Entries.{Body}
use Rattle.tptp_tree.specs.Causes.{Refusal, syntax, free_variable, role_not_taken, too_deep, left_out, body_causes}
use Rattle.tptp_tree.specs.Levels.{formula_levels, body_levels, SpellsFormulaWithin, IsWrittenWithin}

-- A formula that some text spells within a number of levels is spelled by its printed text within twice as many: after `~` an equation
-- and a quantifier may stand bare, and are printed in parentheses.
abbrev pub PrintingAtMostDoubles : Type 0
PrintingAtMostDoubles =
    (levels : ℕ) (text : List ℕ) (f : FormulaTree) → SpellsFormulaWithin levels text f → SpellsFormulaWithin (2 * levels) (formula_text f) f

-- The levels of a tree are those of its printed text, where that spells it.
abbrev pub PrintedWithinItsLevels : Type 0
PrintedWithinItsLevels =
    (levels : ℕ) (f : FormulaTree) → SpellsFormula (formula_text f) f
    → SpellsFormulaWithin levels (formula_text f) f ↔ (formula_levels f ≤ levels)

-- So is a formula that is written within a number of levels as a formula or as a clause, where its printed text spells it.
abbrev pub WrittenIsAtMostDoubled : Type 0
WrittenIsAtMostDoubled =
    (levels : ℕ) (f : FormulaTree) → IsWrittenWithin levels f → SpellsFormula (formula_text f) f
    → SpellsFormulaWithin (2 * levels) (formula_text f) f

-- ---- the limit of a reader

-- the cause is that of a level over the limit
abbrev pub is_too_deep : Option Refusal → Bool
is_too_deep None = false
is_too_deep (Some syntax) = false
is_too_deep (Some free_variable) = false
is_too_deep (Some role_not_taken) = false
is_too_deep (Some too_deep) = true
is_too_deep (Some (left_out form)) = false

-- no cause of the list is
abbrev pub NoneTooDeep : List (Option Refusal) → Type 0
NoneTooDeep causes = AllByRecursion (λ (c : Option Refusal). is_too_deep c ≡ false) causes

-- No token is too deep exactly where the levels are within the limit.
abbrev pub LimitIsOfLevels : Type 0
LimitIsOfLevels = (limit : ℕ) (b : Body) → NoneTooDeep (body_causes limit b []) ↔ (body_levels b ≤ limit)
