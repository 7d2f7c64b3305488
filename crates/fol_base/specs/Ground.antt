-- Ground trees over a list of function symbols, and the ground instances of a clause (Herbrand 1930, Robinson 1965).
use Rattle.std.specs.Prelude.{◌≡◌, ℕ, Bool, true, false, ◌&&◌, ◌==◌, ◌↔◌, List, map, IsTrue}
use Rattle.std.specs.List.{list_any, list_all}
use Rattle.fol_base.specs.Tree.{Tree, variable, application, Trees, no_trees, tree_then, trees_count}
use Rattle.fol_base.specs.Symbols.{FunctionSymbol, FunctionSymbols, has_constant}
use Rattle.fol_base.specs.Instance.{Substitution}
use Rattle.fol_base.specs.Clause.{TreeLiteral, TreeClause, literal_instance}

-- whether the list has this symbol with this number of arguments
abbrev pub has_symbol : List FunctionSymbol → ℕ → ℕ → Bool
has_symbol functions f arity = list_any (λ s. (s.number == f) && (s.arity == arity)) functions

-- the tree, or each tree of the list, has no variables
abbrev mutual
  pub is_ground : Tree → Bool
  is_ground (variable v) = false
  is_ground (application f ts) = are_ground ts

  pub are_ground : Trees → Bool
  are_ground no_trees = true
  are_ground (tree_then t ts) = is_ground t && are_ground ts

-- symbols of the list alone, each with its number of arguments; variables may stand anywhere
abbrev mutual
  pub is_over : List FunctionSymbol → Tree → Bool
  is_over functions (variable v) = true
  is_over functions (application f ts) = has_symbol functions f (trees_count ts) && are_over functions ts

  pub are_over : List FunctionSymbol → Trees → Bool
  are_over functions no_trees = true
  are_over functions (tree_then t ts) = is_over functions t && are_over functions ts

-- a ground tree of the list's symbols alone: a member of the Herbrand universe over them
abbrev pub ground_over : List FunctionSymbol → Tree → Bool
ground_over functions t = is_ground t && is_over functions t

-- each variable becomes a ground tree over the function symbols
abbrev pub IsGroundOver : {is_predicate : ℕ → Bool} → FunctionSymbols is_predicate → Substitution → Type 0
IsGroundOver functions σ = (v : ℕ) → IsTrue (ground_over functions.symbols (σ v))

-- A ground clause is written as the list of its literals, a disjunction. The names of split-off parts are no part of it.
abbrev pub GroundClause : Type 0
GroundClause = List TreeLiteral

-- neither side has variables
abbrev pub is_ground_literal : TreeLiteral → Bool
is_ground_literal l = is_ground l.left && is_ground l.right

-- no literal has variables
abbrev pub is_ground_clause : GroundClause → Bool
is_ground_clause c = list_all is_ground_literal c

-- the literals of a clause under a substitution
abbrev pub literals_instance : Substitution → List TreeLiteral → List TreeLiteral
literals_instance σ ls = map (literal_instance σ) ls

-- g is an instance of c whose variables have become ground trees over the function symbols. Only these trees have to be over
-- them: the heads of atoms are predicates, and the function symbols of c stay.
pub record GroundInstance {is_predicate : ℕ → Bool} (functions : FunctionSymbols is_predicate) (c : TreeClause) (g : GroundClause) : Type 0 where
  pub trees : Substitution
  pub trees_ground : IsGroundOver functions trees
  pub literals : g ≡ literals_instance trees c.literals

-- ---- laws

-- some tree is ground over a list exactly where the list has a constant
abbrev pub ConstantsGiveGroundTrees : Type 0
ConstantsGiveGroundTrees =
    (functions : List FunctionSymbol) → ((t : Tree) × IsTrue (ground_over functions t)) ↔ IsTrue (has_constant functions)

-- a ground instance has no variables
abbrev pub GroundInstancesAreGround : Type 0
GroundInstancesAreGround =
    (is_predicate : ℕ → Bool) (functions : FunctionSymbols is_predicate) (c : TreeClause) (g : GroundClause)
    → GroundInstance functions c g → IsTrue (is_ground_clause g)
