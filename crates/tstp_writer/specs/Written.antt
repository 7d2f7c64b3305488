-- The text of a derivation: of the lines that one of them needs; and where it is an accepted derivation.
use Rattle.std.specs.Prelude.{◌≡◌, ℕ, List}
use Rattle.tptp_tree.specs.declared.problem.Annotated.{Annotated}
use Rattle.kernel_steps.specs.declared.step.Line.{Line}
use Rattle.clausal_form.specs.DerivationTexts.{IsAcceptedDerivation}
use Rattle.tstp_writer.specs.Cone.{IsCone}
use Rattle.tstp_writer.specs.LineTexts.{lines_text}
use Rattle.tstp_writer.specs.LineTrees.{script_of, layout_of, derivation_trees}
use Rattle.tstp_writer.specs.Places.{IsCounted}
use Rattle.tstp_writer.specs.Printable.{IsShown}
use Rattle.tstp_writer.specs.ProblemLaws.{ArePrintableEntries}
use Rattle.tstp_writer.specs.WrittenLaws.{IsReadableRefutation}

-- The text that is written for the lines that the line `last` needs. The lines are counted by a machine word.
pub record IsWritten (file : List ℕ) (problem : List Annotated) (lines : List Line) (last : ℕ) (text : List ℕ) : Type 0 where
  pub numbers : List ℕ
  pub cone : IsCone lines last numbers
  pub counted : IsCounted (layout_of (script_of file problem) lines numbers)
  pub printed : text ≡ lines_text (derivation_trees (script_of file problem) lines numbers)

-- Where the problem's formulas can be printed, as those that were read can, the shown name isn't empty, and the lines are a refutation
-- that can be read again, the text is an accepted derivation of the problem.
abbrev pub IsAcceptedWhereReadable : List ℕ → List Annotated → List Line → ℕ → List ℕ → Type 0
IsAcceptedWhereReadable file problem lines last text =
    ArePrintableEntries problem → IsShown file → IsReadableRefutation problem lines last → (count : ℕ) × IsAcceptedDerivation problem text count
