-- The demands while lines are worked.
use Rattle.std.specs.Prelude.{◌≡◌, ℕ, ◌+◌, ◌-◌, ◌<◌, ◌≤◌, ◌^◌, nat_lt, min, List, [], ◌∷◌, map, sum_by, length, slice_index_or, IsTrue}
use Rattle.std.specs.List.{list_any, list_all, AllByRecursion}
use Rattle.fol_base.specs.Tree.{Tree, application, no_trees, trees_of, tree_size}
use Rattle.fol_base.specs.TreeCode.{Step, trees_steps}
use Rattle.fol_base.specs.Instance.{Substitution, instance}
use Rattle.fol_base.specs.Term.{tree_of}
use Rattle.kernel_steps.specs.declared.step.Line.{Line}
use Rattle.herbrand_list.specs.declared.put_in.PutIn.{PutIn}
use Rattle.herbrand_list.specs.declared.arriving.Demanded.{Demanded}
use Rattle.herbrand_list.specs.declared.demands.DemandList.{DemandList}
use Rattle.herbrand_list.specs.declared.fault.TheConstants.{MOST_WEIGHT}
use Rattle.herbrand_list.specs.declared.fault.GroundFault.{GroundFault}
use Rattle.herbrand_list.specs.declared.fault.GroundFault.TheVariants.{Names, Large, NoMemory}
use Rattle.herbrand_list.specs.Demands.{Demand, put_in, bound_parents, step_at, terms_for}
use Rattle.herbrand_list.specs.GroundList.{ground_size, demanded_instance}

-- ---- terms

-- a constant by its symbol
abbrev pub constant_tree : ℕ → Tree
constant_tree symbol = application symbol no_trees

-- what stands for each variable
abbrev pub putting : PutIn → Substitution
putting p = put_in (constant_tree p.constant) (map tree_of p.terms.now)

-- the size of a tree as u64 tells it, which stops at its last value
abbrev pub stopped_size : Tree → ℕ
stopped_size t = min (tree_size t) (2 ^ 64 - 1)

-- numbers are the sizes of the trees of variables; one that isn't listed has a tree of size 1
abbrev pub AreSizes : Substitution → List ℕ → Type 0
AreSizes σ sizes = (v : ℕ) → slice_index_or sizes v 1 ≡ stopped_size (σ v)

-- ---- demands

-- the demands of a list of the program
abbrev pub demand_of : Demanded → Demand
demand_of d = record { line = d.line; terms = d.terms }

abbrev pub listed : DemandList → List Demand
listed s = map demand_of s.demands

-- the weight of a demand, and of demands
abbrev pub demand_weight : Tree → List Line → Demand → ℕ
demand_weight constant lines d = ground_size (demanded_instance constant lines d.line d.terms) + 1

abbrev pub weight_of : Tree → List Line → List Demand → ℕ
weight_of constant lines demands = sum_by (demand_weight constant lines) demands

-- the steps of a code as numbers, one after another
abbrev pub step_numbers : List Step → List ℕ
step_numbers [] = []
step_numbers (s ∷ steps) = s.0 ∷ s.1 ∷ step_numbers steps

-- a demand as numbers: its line, and the code of its terms
abbrev pub demand_key : Demand → List ℕ
demand_key d = d.line ∷ step_numbers (trees_steps (trees_of d.terms) [])

-- the terms of the demand at a place
abbrev pub terms_at : List Demand → ℕ → List Tree
terms_at demands place = (slice_index_or demands place (record { line = 0; terms = [] })).terms

-- the places of a line's demands
abbrev pub row_at : List (List ℕ) → ℕ → List ℕ
row_at rows n = slice_index_or rows n []

-- each line's parents stand before it
abbrev pub ParentsAreEarlier : List Line → Type 0
ParentsAreEarlier lines = (n : ℕ) → n < length lines → AllByRecursion (λ (p : ℕ × List Tree). p.0 < n) (bound_parents (step_at lines n))

-- The keys of demands, the places of each line's demands, and their weight, which is small enough.
pub record AreListed (constant : Tree) (lines : List Line) (demands : List Demand) (keys rows : List (List ℕ)) (weight : ℕ) : Type 0 where
  pub keyed : keys ≡ map demand_key demands
  pub rows_of_lines : length rows ≡ length lines
  pub within : (n : ℕ) → IsTrue (list_all (λ k. nat_lt k (length demands)) (row_at rows n))
  pub places : (n : ℕ) → n < length lines → map (terms_at demands) (row_at rows n) ≡ terms_for n demands
  pub weighed : weight ≡ weight_of constant lines demands
  pub light : weight ≤ MOST_WEIGHT

abbrev pub IsListed : ℕ → List Line → DemandList → Type 0
IsListed constant lines s = AreListed (constant_tree constant) lines (listed s) s.keys s.by_line.items s.weight

-- a parent under its binding
abbrev pub bound_demand : Substitution → ℕ → List Tree → Demand
bound_demand σ parent bind = record { line = parent; terms = map (instance σ) bind }

-- ---- faults

-- `Large` says that something is heavy; a line with names isn't told here
abbrev pub SaysThat : Type 0 → GroundFault → Type 0
SaysThat IsHeavy (Names line) = ⊥
SaysThat IsHeavy Large = IsHeavy
SaysThat IsHeavy NoMemory = Unit {0}

-- a weight is too large
abbrev pub SaysLarge : ℕ → GroundFault → Type 0
SaysLarge weight fault = SaysThat (MOST_WEIGHT < weight) fault

-- one of these demands is too heavy by itself
abbrev pub OneIsLarge : Tree → List Line → List Demand → Type 0
OneIsLarge constant lines demands = IsTrue (list_any (λ d. nat_lt MOST_WEIGHT (demand_weight constant lines d)) demands)
