-- Lines that can be read again can be printed, and their printed text spells them.
use Rattle.std.specs.Prelude.{◌≡◌, ℕ, suc, List, Some, slice_get, IfSome}
use Rattle.std.specs.List.{AllByRecursion}
use Rattle.tptp_tree.specs.declared.problem.Annotated.{Annotated}
use Rattle.signature.specs.declared.symbol.Symbol.{Symbol}
use Rattle.signature.specs.Form.{clausal_form}
use Rattle.kernel_steps.specs.declared.step.Line.{Line}
use Rattle.clausal_form.specs.DerivationLine.{LineTree}
use Rattle.clausal_form.specs.DerivationTexts.{SpellsDerivation}
use Rattle.tstp_writer.specs.LineTexts.{lines_text}
use Rattle.tstp_writer.specs.LineTrees.{script_of, Layout, lines_at, derived_tree, derivation_trees}
use Rattle.tstp_writer.specs.ReadableLines.{IsReadableClauseLine, LinesFit}
use Rattle.tstp_writer.specs.Printable.{IsShown, IsPrintable}
use Rattle.tstp_writer.specs.ProblemLaws.{ArePrintableEntries}
use Rattle.tstp_writer.specs.DerivedLines.{HasNumberedForm}
use Rattle.tstp_writer.specs.Written.{IsWritten, IsAcceptedWhereReadable}

-- ---- symbols

-- every symbol but the first, `$true`, has a name that is shown
abbrev pub AreShownSymbols : List Symbol → Type 0
AreShownSymbols symbols = (n : ℕ) (s : Symbol) → slice_get symbols (suc n) ≡ Some s → IsShown s.name

abbrev pub FormSymbolsAreShown : Type 0
FormSymbolsAreShown =
    (problem : List Annotated) → ArePrintableEntries problem → AreShownSymbols (clausal_form problem).symbols

-- ---- lines

-- the line that is written for a clause line that can be read again can be printed, under any layout
abbrev pub ReadableLinesArePrintable : Type 0
ReadableLinesArePrintable =
    (problem : List Annotated) → ArePrintableEntries problem → (name : List ℕ) → IsShown name → (layout : Layout) (lines : List Line) (n : ℕ)
    → IfSome (slice_get lines n) (IsReadableClauseLine (clausal_form problem).symbols)
    → IfSome (derived_tree (script_of name problem) layout lines n) IsPrintable

-- ---- derivations

-- all that is written for clause lines of a derivation, those with these numbers
abbrev pub ReadableDerivationsArePrintable : Type 0
ReadableDerivationsArePrintable =
    (problem : List Annotated) → ArePrintableEntries problem → (name : List ℕ) → IsShown name → (lines : List Line) (numbers : List ℕ)
    → AllByRecursion (IsReadableClauseLine (clausal_form problem).symbols) (lines_at lines numbers)
    → AllByRecursion IsPrintable (derivation_trees (script_of name problem) lines numbers)

abbrev pub IsSpelledByText : List LineTree → Type 0
IsSpelledByText trees = SpellsDerivation (lines_text trees) trees

-- and so its text spells it
abbrev pub ReadableDerivationsAreSpelled : Type 0
ReadableDerivationsAreSpelled =
    (problem : List Annotated) → ArePrintableEntries problem → (name : List ℕ) → IsShown name → (lines : List Line) (numbers : List ℕ)
    → AllByRecursion (IsReadableClauseLine (clausal_form problem).symbols) (lines_at lines numbers)
    → IsSpelledByText (derivation_trees (script_of name problem) lines numbers)

-- the text of a refutation that can be read again is an accepted derivation
abbrev pub WrittenTextsAreAccepted : Type 0
WrittenTextsAreAccepted =
    (file : List ℕ) (problem : List Annotated) (lines : List Line) (last : ℕ) (text : List ℕ)
    → HasNumberedForm problem → LinesFit lines → IsWritten file problem lines last text → IsAcceptedWhereReadable file problem lines last text
