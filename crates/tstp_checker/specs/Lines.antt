-- The lines that were taken, and what judging a line more answers.
use Rattle.std.specs.Prelude.{◌≡◌, [], length, Option, None, Some}
use Rattle.tptp_tree.specs.Shape.{entry_of}
use Rattle.tptp_tree.specs.declared.problem.Annotated.{Annotated}
use Rattle.tptp_source.specs.SourceShape.{source_of}
use Rattle.tptp_source.specs.declared.source.Source.{Source}
use Rattle.kernel_steps.specs.declared.step.Line.{Line}
use Rattle.clausal_form.specs.Form.{form_of}
use Rattle.clausal_form.specs.DerivationLine.{LineTree, Taken, with_line}
use Rattle.clausal_form.specs.DerivationParts.{Setting}
use Rattle.clausal_form.specs.DerivationCauses.{refused, taken, line_verdict}
use Rattle.tstp_checker.specs.Causes.{cause_meant}
use Rattle.tstp_checker.specs.Inputs.{KnowsAll}
use Rattle.tstp_checker.specs.Classes.{AreClasses}
use Rattle.tstp_checker.specs.Taken.{taken_of, IsKept}
use Rattle.tstp_checker.specs.declared.cause.Cause.{Cause}
use Rattle.tstp_checker.specs.declared.lines.Lines.{Lines}

-- a line as it was read
abbrev pub line_meant : Annotated → Source → LineTree
line_meant a s = record { entry = entry_of a; source = source_of s }

abbrev pub setting_in : Lines → Setting
setting_in x = record { problem = x.inputs.formulas.now; form = form_of x.form.now }

-- the lines that were taken
abbrev pub taken_in : Lines → Taken
taken_in x = taken_of x.taken

-- The tables are those of the problem, of the form and of the lines, between two lines.
pub record IsReady (x : Lines) : Type 0 where
  pub inputs : KnowsAll x.inputs
  pub classes : AreClasses x.inputs.formulas.now x.classes
  pub kept : IsKept x.taken
  pub defined : length x.taken.components ≡ length x.taken.introduced
  pub symbols : x.numbers.symbols ≡ x.form.now.signature
  pub variables : x.numbers.variables ≡ []

-- A line was judged: the lines are those before and this one; or it is refused, and the lines are those before.
abbrev pub IsJudged : Setting → Taken → LineTree → Option Cause → Taken → Type 0
IsJudged s e t None after = (line : Line) × (line_verdict s e t ≡ taken line) × (after ≡ with_line e t line)
IsJudged s e t (Some cause) after = (line_verdict s e t ≡ refused (cause_meant cause)) × (after ≡ e)
