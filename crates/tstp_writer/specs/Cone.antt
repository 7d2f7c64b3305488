-- The steps of a derivation that one of them needs, and its lines.
use Rattle.std.specs.Prelude.{◌≡◌, ℕ, ◌<◌, ◌-◌, Bool, ◌==◌, List, [], ◌∷◌, Some, length, slice_get, ◌↔◌, IsTrue}
use Rattle.std.specs.List.{list_any}
use Rattle.kernel_steps.specs.Derivation.{is_component_of}
use Rattle.kernel_steps.specs.Lines.{step_parents}
use Rattle.kernel_steps.specs.declared.step.Step.{Step}
use Rattle.kernel_steps.specs.declared.step.Step.TheVariants.{Opposite}
use Rattle.kernel_steps.specs.declared.step.Line.{Line}

abbrev pub has_number : List ℕ → ℕ → Bool
has_number ns n = list_any (λ m. m == n) ns

-- Whether a step needs another, the one of that number: its parents, and of an opposite step the component step of its name.
abbrev pub needs_step : Step → ℕ → Step → Bool
needs_step (Opposite name) n other = is_component_of name other
needs_step step n other = has_number (step_parents step) n

-- whether a step needs a line, the one of that number
abbrev pub needs : Step → ℕ → Line → Bool
needs step n line = needs_step step n line.step

-- Need among items that have a step each, which serves for steps alone and for the lines of a derivation.
module _ {X : Type 0} (step_of : X → Step) where
  -- an item needs earlier ones alone
  abbrev pub NeedEarlierBy : List X → Type 0
  NeedEarlierBy items =
      (n m : ℕ) (item other : X)
      → slice_get items n ≡ Some item → slice_get items m ≡ Some other → IsTrue (needs_step (step_of item) m (step_of other)) → m < n

  -- a set that has the items that its members need
  abbrev pub IsClosedBy : List X → (ℕ → Bool) → Type 0
  IsClosedBy items set =
      (n m : ℕ) (item other : X)
      → slice_get items n ≡ Some item → slice_get items m ≡ Some other → IsTrue (set n)
      → IsTrue (needs_step (step_of item) m (step_of other)) → IsTrue (set m)

  -- The item `last` needs itself, the items that its step needs, and so on: an item is needed if it is in each closed set that has `last`.
  abbrev pub IsNeededBy : List X → ℕ → ℕ → Type 0
  IsNeededBy items last n = (set : ℕ → Bool) → IsTrue (set last) → IsClosedBy items set → IsTrue (set n)

-- all numbers are greater than that one
abbrev pub IsAbove : ℕ → List ℕ → Type 0
IsAbove n [] = Unit {0}
IsAbove n (m ∷ ms) = (n < m) × IsAbove n ms

-- each number is less than those after it
abbrev pub IsRising : List ℕ → Type 0
IsRising [] = Unit {0}
IsRising (n ∷ ns) = IsAbove n ns × IsRising ns

-- the items that one of them needs, each once, in order
pub record IsConeBy {X : Type 0} (step_of : X → Step) (items : List X) (last : ℕ) (numbers : List ℕ) : Type 0 where
  pub rising : IsRising numbers
  pub exact : (n : ℕ) → IsTrue (has_number numbers n) ↔ IsNeededBy step_of items last n

-- ---- the lines of a derivation

abbrev pub step_of_line : Line → Step
step_of_line line = line.step

-- a line needs earlier lines alone
abbrev pub NeedEarlier : List Line → Type 0
NeedEarlier lines = NeedEarlierBy step_of_line lines

abbrev pub IsClosed : List Line → (ℕ → Bool) → Type 0
IsClosed lines set = IsClosedBy step_of_line lines set

abbrev pub IsNeeded : List Line → ℕ → ℕ → Type 0
IsNeeded lines last n = IsNeededBy step_of_line lines last n

-- the lines that a line needs, each once, in order
abbrev pub IsCone : List Line → ℕ → List ℕ → Type 0
IsCone lines last numbers = IsConeBy step_of_line lines last numbers

-- ---- steps alone

abbrev pub itself : Step → Step
itself step = step

-- a step needs earlier ones alone
abbrev pub StepsNeedEarlier : List Step → Type 0
StepsNeedEarlier steps = NeedEarlierBy itself steps

-- the steps that the step of a number needs, each once, in order
abbrev pub IsStepCone : List Step → ℕ → List ℕ → Type 0
IsStepCone steps last numbers = IsConeBy itself steps last numbers

-- ---- lines that are all needed

-- there is a last line, and it needs all others
pub record AreAllNeeded (lines : List Line) : Type 0 where
  pub some : 0 < length lines
  pub needed : (n : ℕ) → n < length lines → IsNeeded lines (length lines - 1) n
