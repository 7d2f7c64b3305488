-- Classes of places as a forest: each place is linked to itself, or to a lower place of its class. Only private functions cite this.
use Rattle.std.specs.Prelude.{◌≡◌, ℕ, ◌<◌, ◌≤◌, ◌==◌, min, max, nat_eq, Bool, List, [], ◌∷◌, length, take, flat_map, sum_by, slice_index, slice_index_or, Some, IsTrue, if◌then◌else◌}
use Rattle.std.specs.HashMap.{HashMap, get}
use Rattle.std.specs.declared.hash.FoldHasher.{FoldHasher}
use Rattle.std.specs.declared.hash.BuildHasherDefault.{BuildHasherDefault}
use Rattle.fol_base.specs.Clause.{TreeLiteral, literal_variables}
use Rattle.kernel_steps.specs.Split.{has_number, is_part, literals_at}
use Rattle.split_parts.specs.Components.{FollowsVariables}

-- no place is linked to a higher one
abbrev pub Falls : List ℕ → Type 0
Falls links = (j : ℕ) → j < length links → slice_index links j ≤ j

-- a colour of the classes: linked places have one colour, and a place that is linked to itself has itself as its colour
pub record IsColouring (colour : ℕ → ℕ) (links : List ℕ) : Type 0 where
  pub follows : (j : ℕ) → j < length links → colour (slice_index links j) ≡ colour j
  pub roots : (j : ℕ) → j < length links → slice_index links j ≡ j → colour j ≡ j

-- the greater of two colours becomes the lesser
abbrev pub merged : ℕ → ℕ → ℕ → ℕ
merged a b c = if c == max a b then min a b else c

-- the variables of the literal at a place
abbrev pub variables_at : List TreeLiteral → ℕ → List ℕ
variables_at ls j = flat_map literal_variables (literals_at ls (j ∷ []))

abbrev pub Table : Type 0
Table = HashMap ℕ ℕ (BuildHasherDefault FoldHasher)

-- The classes after the literals below a place, and the first variables of that place's literal, were met: a table has a place for
-- each variable that was met, and all places where it was met have that one's colour.
pub record IsJoined (ls : List TreeLiteral) (place : ℕ) (count : ℕ) (links : List ℕ) (table : Table) : Type 0 where
  pub colour : ℕ → ℕ
  pub colouring : IsColouring colour links
  pub keeps : (f : ℕ → Bool) → FollowsVariables ls f → (j : ℕ) → f (colour j) ≡ f j
  pub firsts : (v i : ℕ) → get nat_eq table v ≡ Some i → (i < length links) × IsTrue (has_number v (variables_at ls i))
  pub met : (v j : ℕ) → j < place → IsTrue (has_number v (variables_at ls j)) → (i : ℕ) × ((get nat_eq table v ≡ Some i) × (colour i ≡ colour j))
  pub here : (v : ℕ) → IsTrue (has_number v (take count (variables_at ls place))) → (i : ℕ) × ((get nat_eq table v ≡ Some i) × (colour i ≡ colour place))

-- The classes of all literals: those that share a variable have one colour, and no more than these.
pub record IsLinked (ls : List TreeLiteral) (links : List ℕ) : Type 0 where
  pub colour : ℕ → ℕ
  pub colouring : IsColouring colour links
  pub keeps : (f : ℕ → Bool) → FollowsVariables ls f → (j : ℕ) → f (colour j) ≡ f j
  pub connects : (v i j : ℕ) → IsTrue (has_number v (variables_at ls i)) → IsTrue (has_number v (variables_at ls j)) → colour i ≡ colour j

-- ---- the parts

-- a part: places below a bound that have the first one as their colour
pub record IsClass (colour : ℕ → ℕ) (bound : ℕ) (part : List ℕ) : Type 0 where
  pub rises : IsTrue (is_part part)
  pub below : (j : ℕ) → IsTrue (has_number j part) → j < bound
  pub same : (j : ℕ) → IsTrue (has_number j part) → colour j ≡ slice_index part 0

-- The places below a bound stand in parts by their colours; `slots` has the part of each.
pub record IsGrouped (colour : ℕ → ℕ) (bound : ℕ) (slots : List ℕ) (parts : List (List ℕ)) : Type 0 where
  pub classes : (p : ℕ) → p < length parts → IsClass colour bound (slice_index_or parts p [])
  pub in_order : (p q : ℕ) → p < q → q < length parts → slice_index (slice_index_or parts p []) 0 < slice_index (slice_index_or parts q []) 0
  pub count : sum_by length parts ≡ bound
  pub each : (j : ℕ) → j < bound → (slice_index slots j < length parts) × IsTrue (has_number j (slice_index_or parts (slice_index slots j) []))
