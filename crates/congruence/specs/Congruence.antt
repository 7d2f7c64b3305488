-- Congruences of numbered nodes, and the least one that contains equations.
use Rattle.std.specs.Prelude.{◌≡◌, ℕ, ◌<◌, Bool, ◌&&◌, ◌==◌, nat_lt, List, [], ◌∷◌, map, length, slice_index_or, IsTrue}
use Rattle.std.specs.List.{list_all}
use Rattle.congruence.specs.declared.node.Node.{Node}
use Rattle.congruence.specs.declared.node.Equation.{Equation}

-- the node with a number
abbrev pub node_at : List Node → ℕ → Node
node_at nodes n = slice_index_or nodes n (record { symbol = 0; arguments = [] })

-- the equation with a number
abbrev pub equation_at : List Equation → ℕ → Equation
equation_at equations k = slice_index_or equations k (record { left = 0; right = 0 })

-- ---- what there is

-- each argument of each node is a node
abbrev pub are_nodes : List Node → Bool
are_nodes nodes = list_all (λ (node : Node). list_all (λ a. nat_lt a (length nodes)) node.arguments) nodes

-- both sides are nodes
abbrev pub is_between : List Node → Equation → Bool
is_between nodes e = nat_lt e.left (length nodes) && nat_lt e.right (length nodes)

abbrev pub are_between : List Node → List Equation → Bool
are_between nodes equations = list_all (is_between nodes) equations

-- ---- congruences

-- a class for each node
abbrev pub Numbering : Type 0
Numbering = ℕ → ℕ

-- the symbol of a node, and the classes of its arguments
abbrev pub signature : Numbering → Node → List ℕ
signature class node = node.symbol ∷ map class node.arguments

-- nodes with one signature are in one class
abbrev pub IsCongruence : List Node → Numbering → Type 0
IsCongruence nodes class =
    (m n : ℕ) → m < length nodes → n < length nodes → signature class (node_at nodes m) ≡ signature class (node_at nodes n) → class m ≡ class n

-- both sides are in one class
abbrev pub joins : Numbering → Equation → Bool
joins class e = class e.left == class e.right

abbrev pub joins_all : Numbering → List Equation → Bool
joins_all class equations = list_all (joins class) equations

-- ---- the least one

-- the class of a node by a list of classes
abbrev pub class_in : List ℕ → Numbering
class_in classes n = slice_index_or classes n 0

-- The classes are a congruence that contains the equations, and each congruence that contains them joins what the classes join.
pub record IsLeastCongruence (nodes : List Node) (equations : List Equation) (classes : List ℕ) : Type 0 where
  pub sized : length classes ≡ length nodes
  pub congruence : IsCongruence nodes (class_in classes)
  pub contains : IsTrue (joins_all (class_in classes) equations)
  pub least :
      (other : Numbering) → IsCongruence nodes other → IsTrue (joins_all other equations)
      → (m n : ℕ) → m < length nodes → n < length nodes → class_in classes m ≡ class_in classes n → other m ≡ other n
