-- What is written of a refutation, and of a refuted pool.
use Rattle.std.specs.Prelude.{◌≡◌, ℕ, ◌-◌, List, Some, length, slice_get}
use Rattle.fol_base.specs.Clause.{TreeLiteral}
use Rattle.tptp_tree.specs.declared.problem.Annotated.{Annotated}
use Rattle.signature.specs.Form.{clausal_form}
use Rattle.kernel_steps.specs.Derivation.{IsDerivation, IsRefutation}
use Rattle.kernel_steps.specs.declared.step.Step.{Step}
use Rattle.kernel_steps.specs.declared.step.Line.{Line}
use Rattle.pool_writer.specs.Bodies.{HaveBodies, NamesRise}
use Rattle.pool_writer.specs.Retraced.{AreRetraced, steps_of}
use Rattle.tstp_writer.specs.Cone.{IsStepCone}
use Rattle.tstp_writer.specs.ReadableLines.{IsReadableLine}
use Rattle.tstp_writer.specs.Written.{IsWritten}

-- The text of those lines of a refutation that the last one needs, in order, each with its parents' places among them for their numbers;
-- and of the formulas that they stand on.
pub record IsRefutationText (file : List ℕ) (problem : List Annotated) (old : List Line) (text : List ℕ) : Type 0 where
  pub numbers : List ℕ
  pub needed : let steps = steps_of old in IsStepCone steps (length steps - 1) numbers
  pub lines : List Line
  pub retraced : AreRetraced numbers old lines
  pub written : IsWritten file problem lines (length lines - 1) text

-- The text is that of each derivation that has these steps, and these bodies for its names.
abbrev pub IsTextOfSteps : List ℕ → List Annotated → List (List TreeLiteral) → List Step → List ℕ → Type 0
IsTextOfSteps file problem bodies steps text =
    (lines : List Line)
    → IsDerivation (clausal_form problem).clauses lines → HaveBodies bodies lines → steps_of lines ≡ steps
    → IsRefutationText file problem lines text

-- A refutation of the problem's form of which the text can be read again: each of its lines can, names stand for these bodies, and later
-- component lines introduce greater names.
pub record IsWritableRefutation (problem : List Annotated) (bodies : List (List TreeLiteral)) (lines : List Line) : Type 0 where
  pub refutes : IsRefutation (clausal_form problem).clauses lines
  pub readable : (n : ℕ) (line : Line) → slice_get lines n ≡ Some line → IsReadableLine (clausal_form problem).symbols line
  pub bodies_are : HaveBodies bodies lines
  pub rise : NamesRise lines

-- the steps of such a refutation
pub record AreWritableSteps (problem : List Annotated) (bodies : List (List TreeLiteral)) (steps : List Step) : Type 0 where
  pub lines : List Line
  pub is : IsWritableRefutation problem bodies lines
  pub same : steps_of lines ≡ steps
