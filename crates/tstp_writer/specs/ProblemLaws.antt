-- Problems whose formulas can be printed: each as a line, and so can the negation of the conjecture.
use Rattle.std.specs.Prelude.{◌≡◌, ℕ, ◌*◌, ◌≤◌, true, false, ◌&&◌, List, filter_map, IfSome}
use Rattle.std.specs.List.{AllByRecursion}
use Rattle.tptp_tree.specs.declared.limits.TheConstants.{MOST_PRINTED_NESTING}
use Rattle.tptp_tree.specs.declared.problem.Annotated.{Annotated}
use Rattle.tptp_tree.specs.Printing.{formula_text}
use Rattle.tptp_tree.specs.Spelling.{SpellsFormula}
use Rattle.tptp_tree.specs.Entries.{AnnotatedTree, is_conjecture}
use Rattle.kernel_steps.specs.declared.step.Line.{Line}
use Rattle.tptp_tree.specs.Shape.{entry_of}
use Rattle.tptp_tree.specs.Levels.{formula_levels}
use Rattle.tstp_writer.specs.LineTrees.{Script, script_of, is_conjecture_at, Layout, layout_of, line_name, cited_name, negated_name, input_tree, negate_tree, input_at, negate_at}
use Rattle.tstp_writer.specs.Printable.{IsShown, IsFormOf, IsPrintable}

-- The levels that a printed formula may have: twice those of a text that was read, since what stood after `~` without brackets may
-- stand in parentheses.
abbrev pub most_printed_levels : ℕ
most_printed_levels = 2 * MOST_PRINTED_NESTING

-- The printed formula spells it, is of its language's form, and isn't too deep.
pub record IsPrintableEntry (a : AnnotatedTree) : Type 0 where
  pub name : IsShown a.name
  pub role : (a.is_clause && is_conjecture a.role) ≡ false
  pub spelled : SpellsFormula (formula_text a.formula) a.formula
  pub form : IsFormOf a.is_clause a.formula
  pub levels : formula_levels a.formula ≤ most_printed_levels

abbrev pub ArePrintableEntries : List Annotated → Type 0
ArePrintableEntries formulas = AllByRecursion (λ (a : Annotated). IsPrintableEntry (entry_of a)) formulas

-- the lines of a formula of a problem, whatever names they have
pub record HasPrintableLines (a : AnnotatedTree) : Type 0 where
  pub input : (script : Script) (name : List ℕ) → IsShown script.file → IsShown name → IsPrintable (input_tree script name a)
  pub negated :
      (script : Script) (layout : Layout) (name : List ℕ) (place : ℕ) → is_conjecture a.role ≡ true → IsShown name
      → IsPrintable (negate_tree script layout name place a)

-- the lines of a script's formulas, by their places
pub record HasPrintableFormulas (script : Script) : Type 0 where
  pub input : (name : List ℕ) (place : ℕ) → IsShown name → IfSome (input_at script name place) IsPrintable
  pub negated :
      (layout : Layout) (name : List ℕ) (place : ℕ) → is_conjecture_at script place ≡ true → IsShown name
      → IfSome (negate_at script layout name place) IsPrintable

-- the lines with which a written derivation begins: the formulas that it cites, and the negation of the conjecture among them
pub record HasPrintableBeginning (script : Script) (layout : Layout) : Type 0 where
  pub cited : AllByRecursion IsPrintable (filter_map (λ place. input_at script (cited_name layout place) place) layout.cited)
  pub negated :
      AllByRecursion IsPrintable (filter_map (λ place. negate_at script layout (negated_name layout place) place) layout.negated)

-- ---- laws

abbrev pub ProblemLinesArePrintable : Type 0
ProblemLinesArePrintable =
    (formulas : List Annotated) → ArePrintableEntries formulas → AllByRecursion (λ (a : Annotated). HasPrintableLines (entry_of a)) formulas

-- the same by places, where the file's name is shown
abbrev pub ScriptFormulasArePrintable : Type 0
ScriptFormulasArePrintable =
    (formulas : List Annotated) → ArePrintableEntries formulas → (name : List ℕ) → IsShown name → HasPrintableFormulas (script_of name formulas)

abbrev pub BeginningsArePrintable : Type 0
BeginningsArePrintable =
    (formulas : List Annotated) → ArePrintableEntries formulas → (name : List ℕ) → IsShown name → (lines : List Line) (numbers : List ℕ)
    → HasPrintableBeginning (script_of name formulas) (layout_of (script_of name formulas) lines numbers)

abbrev pub LineNamesAreShown : Type 0
LineNamesAreShown = (n : ℕ) → IsShown (line_name n)
