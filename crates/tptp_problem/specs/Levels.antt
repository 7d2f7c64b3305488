-- The nesting of a problem's formulas is limited.
use Rattle.std.specs.Prelude.{ℕ, zero, suc, List}
use Rattle.tptp_tree.specs.declared.limits.TheConstants.{MOST_NESTING, MOST_PRINTED_NESTING}
use Rattle.tptp_tree.specs.Formula.{FormulaTree, truth, negation}
use Rattle.tptp_tree.specs.Levels.{IsWrittenWithin, SpellsFormulaWithin}
use Rattle.tptp_tree.specs.Printing.{formula_text}

-- A formula or a clause of at most `MOST_NESTING` levels says it, and its printed text spells it within `MOST_PRINTED_NESTING`.
pub record HasFewLevels (f : FormulaTree) : Type 0 where
  pub written : IsWrittenWithin MOST_NESTING f
  pub printed : SpellsFormulaWithin MOST_PRINTED_NESTING (formula_text f) f

-- ---- a worked example

-- `$true` after n `~`
abbrev pub negated_times : ℕ → FormulaTree
negated_times zero = truth
negated_times (suc n) = negation (negated_times n)

-- one level over the limit
abbrev pub TooManyLevels : Type 0
TooManyLevels = HasFewLevels (negated_times (suc MOST_NESTING)) → ⊥

-- `~` 1,001 times is over the limit of printed text
abbrev pub TooManyPrinted : Type 0
TooManyPrinted = (text : List ℕ) → SpellsFormulaWithin MOST_PRINTED_NESTING text (negated_times 1001) → ⊥

-- The printed text of a formula of few levels spells it within 1,000.
abbrev pub PrintedWithin : Type 0
PrintedWithin = (f : FormulaTree) → HasFewLevels f → SpellsFormulaWithin 1000 (formula_text f) f
