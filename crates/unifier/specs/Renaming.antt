-- The substitutions of the two sides into shared variables, which are numbered from 0 without gaps.
use Rattle.std.specs.Prelude.{◌≡◌, ◌⊎◌, ℕ, zero, suc, ◌+◌, ◌*◌, ◌/◌, ◌%◌, ◌<◌, ◌≤◌, max, Bool, true, false, ◌&&◌, ◌==◌, nat_lt, List, length, slice_index, Some, if◌then◌else◌}
use Rattle.std.specs.List.{list_all}
use Rattle.fol_base.specs.Tree.{Tree, Trees, variable, tree_eq, VariablesBelow}
use Rattle.fol_base.specs.Instance.{instance, instances}
use Rattle.fol_base.specs.Canonical.{terms_from}
use Rattle.fol_base.specs.declared.clause.Side.{Side}
use Rattle.fol_base.specs.declared.clause.Side.TheVariants.{Left, Right}
use Rattle.unifier.specs.declared.solution.Solution.{Solution}
use Rattle.unifier.specs.SolvedForm.{SolvedForm, code_of, codes_of, joint, substitution_of}
use Rattle.unifier.specs.Matching.{variables_of}
use Rattle.unifier.specs.Layout.{cell_of}

-- the variable of that number is below its side's count; where the sides aren't apart, it is a variable of both, and below
-- one of the counts
abbrev pub is_within : Bool → ℕ → ℕ → ℕ → Bool
is_within true left_count right_count w = if w % 2 == 0 then nat_lt (w / 2) left_count else nat_lt (w / 2) right_count
is_within false left_count right_count w = nat_lt w (max left_count right_count)

-- all variables of the two terms are: each has a pair, also where it stands for itself
abbrev pub fits : SolvedForm → ℕ → ℕ → Bool
fits b left_count right_count = list_all (is_within b.apart left_count right_count) (variables_of b.pairs)

-- the sides were taken apart or not, and the counts fit exactly where each variable of the two terms is below its side's
pub record CountsVariables (apart : Bool) (s : Tree) (t : Tree) (b : SolvedForm) : Type 0 where
  pub sides : b.apart ≡ apart
  pub counts :
      (left_count right_count : ℕ)
      → fits b left_count right_count ≡ list_all (is_within apart left_count right_count) (codes_of apart s t)

-- so each variable that isn't below its side's count stands for itself, by its number among the variables of both sides
abbrev pub FitLeavesOthersApart : Type 0
FitLeavesOthersApart =
    (b : SolvedForm) (left_count right_count : ℕ) → b.apart ≡ true → fits b left_count right_count ≡ true
    → ((v : ℕ) → left_count ≤ v → substitution_of b Left v ≡ variable (code_of true Left v))
    × ((v : ℕ) → right_count ≤ v → substitution_of b Right v ≡ variable (code_of true Right v))

-- counts above counts that fit do too
abbrev pub FitsAbove : Type 0
FitsAbove =
    (b : SolvedForm) (left_count right_count more_left more_right : ℕ) → left_count ≤ more_left → right_count ≤ more_right
    → fits b left_count right_count ≡ true → fits b more_left more_right ≡ true

-- and, not apart, each that is below neither count
abbrev pub FitLeavesOthers : Type 0
FitLeavesOthers =
    (b : SolvedForm) (left_count right_count : ℕ) → b.apart ≡ false → fits b left_count right_count ≡ true
    → (v : ℕ) → max left_count right_count ≤ v
    → (substitution_of b Left v ≡ variable v) × (substitution_of b Right v ≡ variable v)

-- each variable becomes the variable of another number
abbrev pub renamed : (ℕ → ℕ) → Tree → Tree
renamed names = instance (λ w. variable (names w))

-- the terms for the first variables of a side, with the shared variables renamed
abbrev pub side_terms : SolvedForm → (ℕ → ℕ) → Side → ℕ → List Tree
side_terms b names side count = terms_from 0 count (λ v. renamed names (substitution_of b side v))

-- the terms of a unifier for the first variables of each side, with its variables named by a renaming that can be undone
pub record AreNamedTerms (b : SolvedForm) (left_count : ℕ) (right_count : ℕ) (left : List Tree) (right : List Tree) : Type 0 where
  pub names : ℕ → ℕ
  pub back : ℕ → ℕ
  pub left_terms : left ≡ side_terms b names Left left_count
  pub right_terms : right ≡ side_terms b names Right right_count
  pub left_back : (v : ℕ) → v < left_count → renamed back (renamed names (substitution_of b Left v)) ≡ substitution_of b Left v
  pub right_back : (v : ℕ) → v < right_count → renamed back (renamed names (substitution_of b Right v)) ≡ substitution_of b Right v

-- so, and the names are the numbers from 0 on, each of which some variable of a side stands for
pub record AreRenamed (b : SolvedForm) (left_count : ℕ) (right_count : ℕ) (left : List Tree) (right : List Tree) : Type 0 where
  pub named : AreNamedTerms b left_count right_count left right
  pub count : ℕ
  pub left_below : (v : ℕ) → v < left_count → VariablesBelow count (renamed named.names (substitution_of b Left v))
  pub right_below : (v : ℕ) → v < right_count → VariablesBelow count (renamed named.names (substitution_of b Right v))
  pub no_gaps :
      (k : ℕ) → k < count
      → ((v : ℕ) × (v < left_count) × (renamed named.names (substitution_of b Left v) ≡ variable k))
      ⊎ ((v : ℕ) × (v < right_count) × (renamed named.names (substitution_of b Right v) ≡ variable k))

-- ---- how the numbers are given

-- how many numbers there are for variables of both sides
abbrev pub code_count : Bool → ℕ → ℕ → ℕ
code_count true left_count right_count = 2 * max left_count right_count
code_count false left_count right_count = max left_count right_count

-- a variable below its count that stands for itself is shared
abbrev pub is_shared : SolvedForm → ℕ → ℕ → ℕ → Bool
is_shared b left_count right_count w = is_within b.apart left_count right_count w && tree_eq (joint b w) (variable w)

-- how many numbers below n pass the test
abbrev pub rank : (ℕ → Bool) → ℕ → ℕ
rank test zero = 0
rank test (suc n) = rank test n + (if test n then 1 else 0)

-- the new names
pub record AreNames (b : SolvedForm) (left_count : ℕ) (right_count : ℕ) (names : List ℕ) : Type 0 where
  pub many : length names ≡ code_count b.apart left_count right_count
  pub each : (w : ℕ) → w < length names → slice_index names w ≡ rank (is_shared b left_count right_count) w

-- each variable that has a cell has one of so many names
abbrev pub HasNames : Solution → ℕ → Type 0
HasNames b count = (w k : ℕ) → cell_of w b.places.items ≡ Some k → w < count

abbrev pub renamed_trees : (ℕ → ℕ) → Trees → Trees
renamed_trees names = instances (λ w. variable (names w))
