-- The state of the solver, and its steps.
use Rattle.std.specs.Prelude.{◌≡◌, ℕ, ◌*◌, ◌<◌, ◌≤◌, List, [], length, IsTrue}
use Rattle.sat_core.specs.declared.solver.Solver.{Solver}
use Rattle.sat_core.specs.declared.solver.Step.{Step}
use Rattle.sat_core.specs.declared.solver.Step.TheVariants.{Going, Satisfied, Refuted}
use Rattle.sat_core.specs.Clause.{PropClause, clauses_true, valuation_of}
use Rattle.sat_core.specs.State.{AreCovered, IsSound, SameClauses, Derives}
use Rattle.sat_core.specs.Known.{known, IsKnown}
use Rattle.sat_core.specs.Search.{remaining, values_of}

pub record IsState (s : Solver) : Type 0 where
  pub derived : IsKnown s.clauses
  pub sound : IsSound (known s.clauses) s.trail.entries.items s.trail.slots.items
  pub marks : AreCovered s.marks.marked.items s.marks.literals.items
  pub marked_names : length s.marks.marked.items ≡ length s.trail.slots.items
  pub lists : length s.watches.lists.items ≡ 2 * length s.trail.slots.items
  pub copies : SameClauses s.watches.copies.items (known s.clauses)

abbrev pub inputs_of : Solver → List PropClause
inputs_of s = s.clauses.inputs.now

-- the state over the inputs and so many names
pub record IsBegun (names : ℕ) (inputs : List PropClause) (s : Solver) : Type 0 where
  pub state : IsState s
  pub inputs_are : inputs_of s ≡ inputs
  pub names_are : length s.trail.slots.items ≡ names

-- what is left to try over so many names
abbrev pub left_to_try : ℕ → Solver → ℕ
left_to_try names s = remaining names s.trail.entries.items

-- another state over the same inputs and names, with less left to try
pub record Advances (old new : Solver) : Type 0 where
  pub state : IsState new
  pub inputs : inputs_of new ≡ inputs_of old
  pub names : length new.trail.slots.items ≡ length old.trail.slots.items
  pub fewer : left_to_try (length old.trail.slots.items) new < left_to_try (length old.trail.slots.items) old

-- the same, but for what is left to try
pub record Keeps (old new : Solver) : Type 0 where
  pub state : IsState new
  pub inputs : inputs_of new ≡ inputs_of old
  pub names : length new.trail.slots.items ≡ length old.trail.slots.items
  pub no_more : left_to_try (length old.trail.slots.items) new ≤ left_to_try (length old.trail.slots.items) old

-- the conflict's chain derives the empty clause
pub record IsRefuted (s : Solver) : Type 0 where
  pub derived : IsKnown s.clauses
  pub derives : Derives (known s.clauses) (record { start = s.conflict.start; links = s.conflict.links.items }) []

pub record Refutes (old new : Solver) : Type 0 where
  pub refuted : IsRefuted new
  pub inputs : inputs_of new ≡ inputs_of old

-- the values of the trail make each input clause true
pub record Satisfies (old new : Solver) : Type 0 where
  pub names : length new.trail.slots.items ≡ length old.trail.slots.items
  pub makes_true : IsTrue (clauses_true (valuation_of (values_of new.trail.slots.items)) (inputs_of old))

abbrev pub Steps : Solver → Solver → Step → Type 0
Steps old new Going = Advances old new
Steps old new Satisfied = Satisfies old new
Steps old new Refuted = Refutes old new
