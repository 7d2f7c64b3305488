-- A test of lines that doesn't look at their parents' numbers passes on the lines that are made again.
use Rattle.std.specs.Prelude.{◌≡◌, ℕ, Bool, List, IsTrue}
use Rattle.std.specs.List.{list_all}
use Rattle.fol_base.specs.Clause.{TreeClause}
use Rattle.fol_base.specs.Literal.{clause_of}
use Rattle.kernel_steps.specs.declared.step.Step.{Step}
use Rattle.kernel_steps.specs.declared.step.Line.{Line}
use Rattle.kernel_steps.specs.ParentNumbers.{with_parents}
use Rattle.pool_writer.specs.Retraced.{AreRetraced}

-- a test of a step and a clause that doesn't look at the numbers of the step's parents
abbrev pub IgnoresParents : (Step → TreeClause → Bool) → Type 0
IgnoresParents test = (to : ℕ → ℕ) (step : Step) (c : TreeClause) → test (with_parents to step) c ≡ test step c

abbrev pub all_pass : (Step → TreeClause → Bool) → List Line → Bool
all_pass test lines = list_all (λ (l : Line). test l.step (clause_of l.clause)) lines

-- where all lines pass such a test, all that are made again do
abbrev pub TestsCarryOver : Type 0
TestsCarryOver =
    (test : Step → TreeClause → Bool) (numbers : List ℕ) (old made : List Line)
    → IgnoresParents test → AreRetraced numbers old made → IsTrue (all_pass test old) → IsTrue (all_pass test made)
