-- Laws of instances: one after another, their sizes and variables, their subterms, what the rules conclude from them, and the ground
-- instances of instances and of canonical forms.
use Rattle.std.specs.Prelude.{◌≡◌, ◌↔◌, ◌⊎◌, ℕ, ◌+◌, ◌<◌, Bool, List, ◌++◌, flat_map, sum_by, All, Some, is_some, IsTrue, IsFalse}
use Rattle.fol_base.specs.Tree.{Tree, variable, application, Trees, no_trees, tree_then, tree_size, tree_variables, VariablesBelow, is_variable, is_truth}
use Rattle.fol_base.specs.Instance.{Substitution, instance}
use Rattle.fol_base.specs.Place.{subterm, replaced}
use Rattle.fol_base.specs.Clause.{TreeLiteral, TreeClause, clause_instance, clause_size, clause_variables}
use Rattle.fol_base.specs.Canonical.{canonical_clause}
use Rattle.fol_base.specs.Ground.{is_over, GroundClause, GroundInstance, literals_instance}
use Rattle.fol_base.specs.Symbols.{FunctionSymbols}
use Rattle.fol_base.specs.Order.{occurrences}
use Rattle.fol_base.specs.Rules.{superposed, resolved, factored, merged}
use Rattle.fol_base.specs.declared.clause.Side.{Side}

-- the second substitution after the first
abbrev pub after : Substitution → Substitution → Substitution
after second first v = instance second (first v)

-- the occurrences of symbols
abbrev mutual
  pub tree_symbols : Tree → ℕ
  tree_symbols (variable v) = 0
  tree_symbols (application f ts) = 1 + trees_symbols ts

  pub trees_symbols : Trees → ℕ
  trees_symbols no_trees = 0
  trees_symbols (tree_then t ts) = tree_symbols t + trees_symbols ts

abbrev pub clause_symbols : TreeClause → ℕ
clause_symbols c = sum_by (λ l. tree_symbols l.left + tree_symbols l.right) c.literals

-- ---- laws

-- an instance of an instance is an instance
abbrev pub InstancesOfInstances : Type 0
InstancesOfInstances = (σ τ : Substitution) (t : Tree) → instance σ (instance τ t) ≡ instance (after σ τ) t

abbrev pub ClauseInstancesOfInstances : Type 0
ClauseInstancesOfInstances =
    (σ τ : Substitution) (c : TreeClause) → clause_instance σ (clause_instance τ c) ≡ clause_instance (after σ τ) c

-- a ground instance of an instance is one of the clause, where the trees put in for its variables are over the list
abbrev pub GroundInstancesOfInstances : Type 0
GroundInstancesOfInstances =
    (is_predicate : ℕ → Bool) (functions : FunctionSymbols is_predicate) (τ : Substitution) (c : TreeClause) (g : GroundClause)
    → All (λ v. IsTrue (is_over functions.symbols (τ v))) (clause_variables c)
    → GroundInstance functions (clause_instance τ c) g → GroundInstance functions c g

-- two substitutions that agree on the variables of a tree give it one instance
abbrev pub InstancesAgree : Type 0
InstancesAgree =
    (σ τ : Substitution) (t : Tree) → All (λ v. σ v ≡ τ v) (tree_variables t) → instance σ t ≡ instance τ t

abbrev pub InstancesAgreeBelow : Type 0
InstancesAgreeBelow =
    (n : ℕ) (σ τ : Substitution) (t : Tree)
    → VariablesBelow n t → ((v : ℕ) → v < n → σ v ≡ τ v) → instance σ t ≡ instance τ t

-- the size of an instance: the symbols, and for each occurrence of a variable the size of the tree put in
abbrev pub SizesOfInstances : Type 0
SizesOfInstances =
    (σ : Substitution) (t : Tree) → tree_size (instance σ t) ≡ tree_symbols t + sum_by (λ v. tree_size (σ v)) (tree_variables t)

abbrev pub SizesOfClauseInstances : Type 0
SizesOfClauseInstances =
    (σ : Substitution) (c : TreeClause)
    → clause_size (clause_instance σ c) ≡ clause_symbols c + sum_by (λ v. tree_size (σ v)) (clause_variables c)

-- the variables of an instance are those of the trees put in, in order, and so are their counts
abbrev pub VariablesOfInstances : Type 0
VariablesOfInstances =
    (σ : Substitution) (t : Tree) → tree_variables (instance σ t) ≡ flat_map (λ v. tree_variables (σ v)) (tree_variables t)

abbrev pub OccurrencesInInstances : Type 0
OccurrencesInInstances =
    (σ : Substitution) (t : Tree) (v : ℕ)
    → occurrences v (instance σ t) ≡ sum_by (λ w. occurrences v (σ w)) (tree_variables t)

-- an instance has, at the places of the tree, the instances of its subterms
abbrev pub SubtermsOfInstances : Type 0
SubtermsOfInstances =
    (σ : Substitution) (place : List ℕ) (t u : Tree)
    → subterm place t ≡ Some u → subterm place (instance σ t) ≡ Some (instance σ u)

-- to replace and then put in is to put in and then replace
abbrev pub ReplacementsInInstances : Type 0
ReplacementsInInstances =
    (σ : Substitution) (place : List ℕ) (new t made : Tree)
    → replaced place new t ≡ Some made → replaced place (instance σ new) (instance σ t) ≡ Some (instance σ made)

-- A place of an instance is a place of the tree, with the instance of the subterm there; or it is at a variable's place, or below
-- one, and goes on in the tree put in for the variable.
pub record BelowVariable (σ : Substitution) (place : List ℕ) (t : Tree) (u : Tree) : Type 0 where
  pub above : List ℕ
  pub below : List ℕ
  pub number : ℕ
  pub whole : place ≡ above ++ below
  pub variable_there : subterm above t ≡ Some (variable number)
  pub goes_on : subterm below (σ number) ≡ Some u

pub record AtPlaceOf (σ : Substitution) (place : List ℕ) (t : Tree) (u : Tree) : Type 0 where
  pub old : Tree
  pub there : subterm place t ≡ Some old
  pub no_variable : IsFalse (is_variable old)
  pub becomes : instance σ old ≡ u

abbrev pub PlacesInInstances : Type 0
PlacesInInstances =
    (σ : Substitution) (place : List ℕ) (t u : Tree)
    → subterm place (instance σ t) ≡ Some u → AtPlaceOf σ place t u ⊎ BelowVariable σ place t u

-- a place has a subterm exactly where it can be replaced
abbrev pub ReplacedWhereThere : Type 0
ReplacedWhereThere = (place : List ℕ) (new t : Tree) → is_some (replaced place new t) ≡ is_some (subterm place t)

-- no variable becomes `$true`
abbrev pub PutsNoTruth : Substitution → Type 0
PutsNoTruth σ = (v : ℕ) → IsFalse (is_truth (σ v))

-- The conclusions of instances are the instances of conclusions. A side that is chosen has to stay one.
abbrev pub SuperpositionsInInstances : Type 0
SuperpositionsInInstances =
    (σ : Substitution) (first second made : List TreeLiteral) (i j : ℕ) (from_side into_side : Side) (place : List ℕ)
    → PutsNoTruth σ → superposed first i from_side second j into_side place ≡ Some made
    → superposed (literals_instance σ first) i from_side (literals_instance σ second) j into_side place ≡ Some (literals_instance σ made)

abbrev pub ResolutionsInInstances : Type 0
ResolutionsInInstances =
    (σ : Substitution) (ls made : List TreeLiteral) (i : ℕ)
    → resolved ls i ≡ Some made → resolved (literals_instance σ ls) i ≡ Some (literals_instance σ made)

abbrev pub FactoringsInInstances : Type 0
FactoringsInInstances =
    (σ : Substitution) (ls made : List TreeLiteral) (i j : ℕ) (side_i side_j : Side)
    → PutsNoTruth σ → factored ls i side_i j side_j ≡ Some made
    → factored (literals_instance σ ls) i side_i j side_j ≡ Some (literals_instance σ made)

abbrev pub MergesInInstances : Type 0
MergesInInstances =
    (σ : Substitution) (ls made : List TreeLiteral) (i j : ℕ)
    → merged ls i j ≡ Some made → merged (literals_instance σ ls) i j ≡ Some (literals_instance σ made)

-- a clause's ground instances are those of its canonical form
abbrev pub GroundInstancesOfCanonical : Type 0
GroundInstancesOfCanonical =
    (is_predicate : ℕ → Bool) (functions : FunctionSymbols is_predicate) (c : TreeClause) (g : GroundClause)
    → GroundInstance functions c g ↔ GroundInstance functions (canonical_clause c) g
