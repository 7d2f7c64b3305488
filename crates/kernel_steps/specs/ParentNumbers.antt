-- The numbers of a step's parents: those that an iterator over them has left, and a step with other numbers in their place.
use Rattle.std.specs.Prelude.{◌≡◌, ℕ, List, [], ◌∷◌, ◌++◌, map, Option, None, Some}
use Rattle.kernel_steps.specs.Lines.{step_parents}
use Rattle.kernel_steps.specs.Soundness.{bindings_of}
use Rattle.kernel_steps.specs.declared.parent_numbers.ParentNumbers.{ParentNumbers}
use Rattle.kernel_steps.specs.declared.step.Step.{Step}
use Rattle.kernel_steps.specs.declared.step.Step.TheVariants.{Para, Refl, Factor, Merge, Split, Chain}

-- the value of an option as a list
abbrev pub listed : {X : Type 0} → Option X → List X
listed None = []
listed (Some x) = x ∷ []

-- the numbers that an iterator has left
abbrev pub parents_left : ParentNumbers → List ℕ
parents_left p = listed p.first ++ (listed p.second ++ p.listed.now)

-- the step with other numbers for its parents
abbrev pub with_parents : (ℕ → ℕ) → Step → Step
with_parents to (Para first second from from_side into into_side place first_bind second_bind) =
    Para (to first) (to second) from from_side into into_side place first_bind second_bind
with_parents to (Refl parent literal bind) = Refl (to parent) literal bind
with_parents to (Factor parent becomes becomes_side other other_side bind) = Factor (to parent) becomes becomes_side other other_side bind
with_parents to (Merge parent stays goes bind) = Merge (to parent) stays goes bind
with_parents to (Split parent definitions parts) = Split (to parent) (map to definitions) parts
with_parents to (Chain numbers pivots) = Chain (map to numbers) pivots
with_parents to step = step

-- the parents of a step with other numbers for them are these numbers, and its bindings are as before
pub record MapsParents : Type 0 where
  pub parents : (to : ℕ → ℕ) (step : Step) → step_parents (with_parents to step) ≡ map to (step_parents step)
  pub bindings : (to : ℕ → ℕ) (step : Step) → bindings_of (with_parents to step) ≡ bindings_of step
