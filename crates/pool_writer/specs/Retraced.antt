-- A refutation made again from its steps: it has only the lines that the last one needs, with their parents' places for their numbers.
use Rattle.std.specs.Prelude.{◌≡◌, ℕ, ◌<◌, ◌-◌, nat_le, List, Some, length, map, slice_get}
use Rattle.std.specs.List.{position_or_len}
use Rattle.fol_base.specs.Clause.{TreeLiteral, TreeClause}
use Rattle.fol_base.specs.Literal.{clause_of}
use Rattle.kernel_steps.specs.Derivation.{IsDerivation, IsRefutation}
use Rattle.kernel_steps.specs.ParentNumbers.{with_parents}
use Rattle.kernel_steps.specs.declared.step.Step.{Step}
use Rattle.kernel_steps.specs.declared.step.Line.{Line}
use Rattle.tstp_writer.specs.Cone.{StepsNeedEarlier, IsStepCone}
use Rattle.pool_writer.specs.Bodies.{HaveBodies}

-- the place of a number among rising ones: after those that are less
abbrev pub place_among : List ℕ → ℕ → ℕ
place_among numbers n = position_or_len (λ m. nat_le n m) numbers

-- The line at a place is that of the number there: the same clause, by the same step, with the parents' places for their numbers.
pub record IsRetraced (numbers : List ℕ) (old : List Line) (place : ℕ) (made : Line) : Type 0 where
  pub number : ℕ
  pub numbered : slice_get numbers place ≡ Some number
  pub line : Line
  pub there : slice_get old number ≡ Some line
  pub step : made.step ≡ with_parents (place_among numbers) line.step
  pub clause : clause_of made.clause ≡ clause_of line.clause

abbrev pub steps_of : List Line → List Step
steps_of lines = map (λ (l : Line). l.step) lines

-- the steps of a refutation whose names have these bodies
pub record AreRefutingSteps (form : List TreeClause) (bodies : List (List TreeLiteral)) (steps : List Step) : Type 0 where
  pub lines : List Line
  pub refutes : IsRefutation form lines
  pub bodies_are : HaveBodies bodies lines
  pub same : steps_of lines ≡ steps

-- a refutation has a step, and each of its steps needs earlier ones alone
abbrev pub RefutingStepsGoBack : Type 0
RefutingStepsGoBack =
    (form : List TreeClause) (bodies : List (List TreeLiteral)) (steps : List Step)
    → AreRefutingSteps form bodies steps → (0 < length steps) × StepsNeedEarlier steps

-- the lines of these numbers, in order
pub record AreRetraced (numbers : List ℕ) (old made : List Line) : Type 0 where
  pub count : length made ≡ length numbers
  pub each : (place : ℕ) (line : Line) → slice_get made place ≡ Some line → IsRetraced numbers old place line

-- Of each derivation that has these steps, and these bodies for its names, the lines are those that the last one needs.
pub record IsRetracing (form : List TreeClause) (bodies : List (List TreeLiteral)) (steps : List Step) (made : List Line) : Type 0 where
  pub numbers : List ℕ
  pub needed : IsStepCone steps (length steps - 1) numbers
  pub lines : (old : List Line) → IsDerivation form old → HaveBodies bodies old → steps_of old ≡ steps → AreRetraced numbers old made
