-- A law of written derivations: of lines that can be read again, the lines that are written are accepted.
use Rattle.std.specs.Prelude.{◌≡◌, ℕ, ◌<◌, List, length, Some, slice_get, IsTrue}
use Rattle.fol_base.specs.Literal.{clause_of}
use Rattle.tptp_tree.specs.declared.problem.Annotated.{Annotated}
use Rattle.signature.specs.Form.{clausal_form}
use Rattle.kernel_steps.specs.Conclusion.{empty_clause}
use Rattle.kernel_steps.specs.Derivation.{IsDerivation, is_clause_step}
use Rattle.kernel_steps.specs.declared.step.Step.TheVariants.{Component}
use Rattle.kernel_steps.specs.declared.step.Line.{Line}
use Rattle.clausal_form.specs.DerivationLines.{accepted, verdict_on_lines}
use Rattle.tstp_writer.specs.Cone.{IsNeeded, IsCone}
use Rattle.tstp_writer.specs.LineTrees.{script_of, layout_of, derivation_trees}
use Rattle.tstp_writer.specs.ReadableLines.{IsReadableLine, LinesFit}
use Rattle.tstp_writer.specs.DerivedLines.{HasNumberedForm}
use Rattle.tstp_writer.specs.Places.{IsCounted}

-- Of two component lines that the line `last` needs, the later one introduces the greater name: since names have their places in a text as
-- numbers, a clause then has them there in the same order.
abbrev pub NeededNamesRise : List Line → ℕ → Type 0
NeededNamesRise lines last =
    (n m name greater : ℕ) (line later : Line)
    → slice_get lines n ≡ Some line → slice_get lines m ≡ Some later → IsNeeded lines last n → IsNeeded lines last m → n < m
    → line.step ≡ Component name → later.step ≡ Component greater → name < greater

-- A refutation whose text can be read again: a derivation from the problem's form in which the line `last` is a clause line with the
-- empty clause, the lines that it needs can be read again, and of these the component lines introduce rising names.
pub record IsReadableRefutation (problem : List Annotated) (lines : List Line) (last : ℕ) : Type 0 where
  pub derived : IsDerivation (clausal_form problem).clauses lines
  pub readable :
      (n : ℕ) (line : Line)
      → slice_get lines n ≡ Some line → IsNeeded lines last n → IsReadableLine (clausal_form problem).symbols line
  pub names : NeededNamesRise lines last
  pub line : Line
  pub ends : slice_get lines last ≡ Some line
  pub is_clause : IsTrue (is_clause_step line.step)
  pub is_empty : clause_of line.clause ≡ empty_clause

-- the lines that are written of such a refutation are accepted, where they are counted by a machine word
abbrev pub WrittenLinesAreAccepted : Type 0
WrittenLinesAreAccepted =
    (file : List ℕ) (problem : List Annotated) (lines : List Line) (last : ℕ) (numbers : List ℕ)
    → HasNumberedForm problem → LinesFit lines → IsReadableRefutation problem lines last → IsCone lines last numbers → IsCounted (layout_of (script_of file problem) lines numbers)
    → verdict_on_lines problem (derivation_trees (script_of file problem) lines numbers)
    ≡ accepted (length (derivation_trees (script_of file problem) lines numbers))
