-- The state of the pass backwards: marked steps, and names whose component steps are needed.
use Rattle.std.specs.Prelude.{◌≡◌, ℕ, suc, ◌<◌, ◌≤◌, Bool, false, ◌||◌, ◌&&◌, ◌==◌, List, length, Some, slice_get, option_map, unwrap_or, IsTrue}
use Rattle.std.specs.List.{list_any}
use Rattle.kernel_steps.specs.Marks.{is_marked}
use Rattle.kernel_steps.specs.declared.step.Step.{Step}
use Rattle.kernel_steps.specs.declared.step.Step.TheVariants.{Component}
use Rattle.kernel_steps.specs.declared.step.Line.{Line}
use Rattle.tstp_writer.specs.Cone.{needs_step, IsNeededBy}
use Rattle.tstp_writer.specs.LineTrees.{Script, comes_from}
use Rattle.tstp_writer.specs.declared.needed.Marks.{Marks}

-- the step is the definition of one of the names
abbrev pub defines_one : List ℕ → Step → Bool
defines_one names (Component name) = list_any (λ m. name == m) names
defines_one names _ = false

-- the step is known to be needed
abbrev pub has_step : Marks → ℕ → Step → Bool
has_step marks n step = is_marked marks.steps.items n || defines_one marks.names.keys step

-- the marks after the needs of a step were added
abbrev pub IsAdded : Step → Marks → Marks → Type 0
IsAdded step before after =
    (n : ℕ) (other : Step) → n < length before.steps.items → has_step after n other ≡ (has_step before n other || needs_step step n other)

-- the marks after the visit of a step: if it is needed, it is marked, and its needs were added
abbrev pub IsVisited : ℕ → Step → Marks → Marks → Type 0
IsVisited place visited before after =
    (n : ℕ) (other : Step) → n < length before.steps.items
    → has_step after n other
    ≡ (has_step before n other || (has_step before place visited && (place == n || needs_step visited n other)))

-- The invariant after the items from one place on were visited. Every item that is known to be needed is needed; the item `last` is
-- marked; and of the visited items those that are known to be needed are marked, and their needs are known.
pub record IsPassed {X : Type 0} (step_of : X → Step) (items : List X) (last from : ℕ) (marks : Marks) : Type 0 where
  pub room : length marks.steps.items ≡ suc last
  pub first : IsTrue (is_marked marks.steps.items last)
  pub sound :
      (n : ℕ) (item : X) → slice_get items n ≡ Some item → n < suc last → IsTrue (has_step marks n (step_of item))
      → IsNeededBy step_of items last n
  pub settled :
      (n : ℕ) (item : X) → slice_get items n ≡ Some item → from ≤ n → n < suc last → IsTrue (has_step marks n (step_of item))
      → IsTrue (is_marked marks.steps.items n)
  pub closed :
      (n m : ℕ) (item other : X) → slice_get items n ≡ Some item → slice_get items m ≡ Some other → from ≤ n → n < suc last
      → IsTrue (is_marked marks.steps.items n) → IsTrue (needs_step (step_of item) m (step_of other))
      → IsTrue (has_step marks m (step_of other))

-- the line of that number, if it is there, is a clause of that formula
abbrev pub comes_at : Script → List Line → ℕ → ℕ → Bool
comes_at script lines place number = unwrap_or (option_map (λ (l : Line). comes_from script place l.step) (slice_get lines number)) false
