-- The part of a form that comes from kept formulas, and the derivations from it as derivations from the whole form.
use Rattle.std.specs.Prelude.{◌≡◌, ℕ, ◌+◌, ◌≤◌, Bool, true, if◌then◌else◌, nat_lt, List, [], ◌∷◌, map, length, sum_by, All, IsTrue, slice_index}
use Rattle.std.specs.List.{list_all}
use Rattle.fol_base.specs.Clause.{TreeClause, clause_size}
use Rattle.fol_base.specs.Canonical.{IsCanonical}
use Rattle.fol_base.specs.WellFormed.{WellFormed}
use Rattle.fol_base.specs.declared.limits.TheConstants.{MOST_SYMBOLS}
use Rattle.kernel_steps.specs.Derivation.{IsDerivation, IsRefutation}
use Rattle.kernel_steps.specs.declared.step.Step.{Step}
use Rattle.kernel_steps.specs.declared.step.Step.TheVariants.{Clausify}
use Rattle.kernel_steps.specs.declared.step.Line.{Line}
use Rattle.axiom_filter.specs.Places.{places_from}
use Rattle.axiom_filter.specs.Tables.{has_number}

-- ---- the part

-- the elements beside the numbers that pass a test
abbrev pub beside : {X : Type 0} → (ℕ → Bool) → List ℕ → List X → List X
beside test [] xs = []
beside test (n ∷ ns) [] = []
beside test (n ∷ ns) (x ∷ xs) = if test n then x ∷ beside test ns xs else beside test ns xs

abbrev pub is_among : List ℕ → ℕ → Bool
is_among kept n = has_number n kept

-- the clauses whose origin is kept, in the form's order
abbrev pub kept_clauses : List ℕ → List ℕ → List TreeClause → List TreeClause
kept_clauses kept origins clauses = beside (is_among kept) origins clauses

-- and their numbers in the form
abbrev pub kept_numbers : List ℕ → List ℕ → List ℕ
kept_numbers kept origins = places_from 0 (is_among kept) origins

-- ---- derivations from it

-- a clausify step with the number that its own one names in a list
abbrev pub reindexed_step : List ℕ → Step → Step
reindexed_step numbers (Clausify i) = Clausify (slice_index numbers i)
reindexed_step numbers step = step

abbrev pub reindexed_line : List ℕ → Line → Line
reindexed_line numbers l = record { step = reindexed_step numbers l.step; clause = l.clause }

abbrev pub reindexed : List ℕ → List Line → List Line
reindexed numbers lines = map (reindexed_line numbers) lines

-- the number of a clausify step is below the length of a list
abbrev pub names_entry : List ℕ → Step → Bool
names_entry numbers (Clausify i) = nat_lt i (length numbers)
names_entry numbers step = true

abbrev pub NameEntries : List ℕ → List Step → Type 0
NameEntries numbers steps = IsTrue (list_all (names_entry numbers) steps)

abbrev pub steps_of : List Line → List Step
steps_of lines = map (λ (l : Line). l.step) lines

-- ---- laws

-- Derivations from the part become derivations from the form, refutations refutations. Each clausify step names an entry, and the steps
-- become those of the lines.
pub record PartsDerive : Type 0 where
  pub derivations :
      (kept origins : List ℕ) (clauses : List TreeClause) (lines : List Line)
      → IsDerivation (kept_clauses kept origins clauses) lines → IsDerivation clauses (reindexed (kept_numbers kept origins) lines)
  pub refutations :
      (kept origins : List ℕ) (clauses : List TreeClause) (lines : List Line)
      → IsRefutation (kept_clauses kept origins clauses) lines → IsRefutation clauses (reindexed (kept_numbers kept origins) lines)
  pub entries :
      (kept origins : List ℕ) (clauses : List TreeClause) (lines : List Line)
      → IsDerivation (kept_clauses kept origins clauses) lines → NameEntries (kept_numbers kept origins) (steps_of lines)
  pub steps :
      (numbers : List ℕ) (lines : List Line) → steps_of (reindexed numbers lines) ≡ map (reindexed_step numbers) (steps_of lines)

-- the part has what a saturation may begin with where the form has it
pub record PartsAreInputs : Type 0 where
  pub canonical : (kept origins : List ℕ) (clauses : List TreeClause) → All IsCanonical clauses → All IsCanonical (kept_clauses kept origins clauses)
  pub no_names : (kept origins : List ℕ) (clauses : List TreeClause) → All (λ (c : TreeClause). c.names ≡ []) clauses → All (λ (c : TreeClause). c.names ≡ []) (kept_clauses kept origins clauses)
  pub small : (kept origins : List ℕ) (clauses : List TreeClause) → All (λ (c : TreeClause). clause_size c ≤ MOST_SYMBOLS) clauses → All (λ (c : TreeClause). clause_size c ≤ MOST_SYMBOLS) (kept_clauses kept origins clauses)
  pub few :
      (kept origins : List ℕ) (clauses : List TreeClause)
      → sum_by clause_size (kept_clauses kept origins clauses) + length (kept_clauses kept origins clauses) ≤ sum_by clause_size clauses + length clauses
  pub well_formed : (kept origins : List ℕ) (clauses : List TreeClause) (w : WellFormed clauses) → (v : WellFormed (kept_clauses kept origins clauses)) × (v.usage ≡ w.usage)
