-- The lines of an accepted derivation, as the kernel judges them.
use Rattle.std.specs.Prelude.{◌≡◌, ℕ, List, length}
use Rattle.tptp_tree.specs.declared.problem.Annotated.{Annotated}
use Rattle.kernel_steps.specs.declared.step.Line.{Line}
use Rattle.clausal_form.specs.DerivationLine.{LineTree, Taken, kernel_lines}
use Rattle.clausal_form.specs.DerivationParts.{setting_of}
use Rattle.clausal_form.specs.DerivationLines.{all_taken, lines_verdict, ended, accepted}
use Rattle.clausal_form.specs.DerivationTexts.{SpellsDerivation}

-- The text spells lines that are accepted, and these are they for the kernel.
pub record AreAcceptedLines (problem : List Annotated) (bytes : List ℕ) (lines : List Line) : Type 0 where
  pub trees : List LineTree
  pub spelled : SpellsDerivation bytes trees
  pub taken : Taken
  pub all : lines_verdict (setting_of problem) trees ≡ all_taken taken
  pub ends : ended (all_taken taken) ≡ accepted (length lines)
  pub same : kernel_lines taken ≡ lines
