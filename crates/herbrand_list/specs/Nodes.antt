-- Ground terms as nodes, and ground literals as names of equations between them.
use Rattle.std.specs.Prelude.{◌≡◌, ℕ, ◌<◌, ◌≤◌, ◌^◌, Bool, ◌&&◌, ◌==◌, nat_lt, bytes_eq, List, [], ◌∷◌, ◌++◌, length, map, IsTrue}
use Rattle.fol_base.specs.Tree.{Tree, variable, application, Trees, no_trees, tree_then, true_symbol}
use Rattle.fol_base.specs.Clause.{TreeLiteral}
use Rattle.fol_base.specs.Ground.{GroundClause}
use Rattle.fol_base.specs.Interpretation.{Interpretation, symbol_value}
use Rattle.plain_types.specs.declared.sequence.NameLit.{NameLit}
use Rattle.sat_core.specs.Clause.{PropClause}
use Rattle.congruence.specs.declared.node.Node.{Node}
use Rattle.congruence.specs.declared.node.Equation.{Equation}
use Rattle.congruence.specs.Congruence.{Numbering, node_at, equation_at, are_nodes, are_between}

-- ---- terms

-- a node stands for a tree: it has the tree's head, and its arguments stand for the tree's arguments
abbrev mutual
  pub Stands : List Node → ℕ → Tree → Type 0
  Stands nodes n (variable v) = ⊥
  Stands nodes n (application f ts) =
      (n < length nodes) × ((node_at nodes n).symbol ≡ f) × AllStand nodes (node_at nodes n).arguments ts

  pub AllStand : List Node → List ℕ → Trees → Type 0
  AllStand nodes [] no_trees = Unit {0}
  AllStand nodes [] (tree_then t ts) = ⊥
  AllStand nodes (n ∷ ns) no_trees = ⊥
  AllStand nodes (n ∷ ns) (tree_then t ts) = Stands nodes n t × AllStand nodes ns ts

-- each node has a value in an interpretation
pub record HasNodeValues (i : Interpretation) (nodes : List Node) : Type 0 where
  pub value : Numbering
  pub each : (n : ℕ) → n < length nodes → value n ≡ symbol_value i (node_at nodes n).symbol (map value (node_at nodes n).arguments)

-- Nodes for terms, the first for `$true`.
pub record AreTermNodes (nodes : List Node) : Type 0 where
  pub proper : IsTrue (are_nodes nodes)
  pub few : length nodes ≤ 2 ^ 32
  pub some : 0 < length nodes
  pub truth : node_at nodes 0 ≡ record { symbol = true_symbol; arguments = [] }
  pub values : (i : Interpretation) → HasNodeValues i nodes

-- a node of this symbol with these arguments
abbrev pub is_node_of : ℕ → List ℕ → Node → Bool
is_node_of f arguments node = (node.symbol == f) && bytes_eq node.arguments arguments

-- more came at the end
pub record IsGrown {X : Type 0} (old new : List X) : Type 0 where
  pub more : List X
  pub is : new ≡ old ++ more

-- ---- literals

-- two lists of equal length, related at each place
abbrev pub AllPairs : {X Y : Type 0} → (X → Y → Type 0) → List X → List Y → Type 0
AllPairs R [] [] = Unit {0}
AllPairs R [] (y ∷ ys) = ⊥
AllPairs R (x ∷ xs) [] = ⊥
AllPairs R (x ∷ xs) (y ∷ ys) = R x y × AllPairs R xs ys

-- A signed name stands for a literal: its sign is the literal's, and the nodes of its equation stand for the sides.
pub record IsNameOf (nodes : List Node) (atoms : List Equation) (l : TreeLiteral) (name : NameLit) : Type 0 where
  pub sign : name.positive ≡ l.positive
  pub below : IsTrue (nat_lt name.name (length atoms))
  pub left : Stands nodes (equation_at atoms name.name).left l.left
  pub right : Stands nodes (equation_at atoms name.name).right l.right

abbrev pub AreNamesOf : List Node → List Equation → GroundClause → PropClause → Type 0
AreNamesOf nodes atoms ls names = AllPairs (IsNameOf nodes atoms) ls names

abbrev pub AreClausesOf : List Node → List Equation → List GroundClause → List PropClause → Type 0
AreClausesOf nodes atoms list clauses = AllPairs (AreNamesOf nodes atoms) list clauses

-- Equations between nodes for terms.
pub record AreAtoms (nodes : List Node) (atoms : List Equation) : Type 0 where
  pub terms : AreTermNodes nodes
  pub between : IsTrue (are_between nodes atoms)
  pub few : length atoms < 2 ^ 32
