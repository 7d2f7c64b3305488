-- What holds of classes while they are joined: they join no more than the equations ask.
use Rattle.std.specs.Prelude.{◌≡◌, ℕ, ◌<◌, ◌⊎◌, ◌==◌, List, length, min, max, IsTrue, if◌then◌else◌}
use Rattle.congruence.specs.declared.node.Node.{Node}
use Rattle.congruence.specs.declared.node.Equation.{Equation}
use Rattle.congruence.specs.Congruence.{Numbering, node_at, signature, IsCongruence, joins_all, class_in}

-- each congruence that contains the equations joins the two nodes
abbrev pub AreOne : List Node → List Equation → ℕ → ℕ → Type 0
AreOne nodes equations m n =
    (other : Numbering) → IsCongruence nodes other → IsTrue (joins_all other equations) → other m ≡ other n

-- There is a class for each node, and a node that is one with it.
pub record AreSound (nodes : List Node) (equations : List Equation) (classes : List ℕ) : Type 0 where
  pub sized : length classes ≡ length nodes
  pub sound : (n : ℕ) → n < length nodes → AreOne nodes equations (class_in classes n) n

-- the pair with its sides exchanged
abbrev pub exchanged : Equation → Equation
exchanged e = record { left = e.right; right = e.left }

-- two nodes with one signature
pub record AreAlike (nodes : List Node) (class : Numbering) (e : Equation) : Type 0 where
  pub left_there : e.left < length nodes
  pub right_there : e.right < length nodes
  pub alike : signature class (node_at nodes e.left) ≡ signature class (node_at nodes e.right)

-- Two nodes that are one, and in two classes.
pub record IsGap (nodes : List Node) (equations : List Equation) (classes : List ℕ) (e : Equation) : Type 0 where
  pub left_there : e.left < length nodes
  pub right_there : e.right < length nodes
  pub one : AreOne nodes equations e.left e.right
  pub apart : class_in classes e.left ≡ class_in classes e.right → ⊥

-- classes of which some have become another one
pub record AreRelabelled (from to : ℕ) (old new : List ℕ) : Type 0 where
  pub sized : length new ≡ length old
  pub each : (n : ℕ) → (class_in new n ≡ class_in old n) ⊎ ((class_in old n ≡ from) × (class_in new n ≡ to))

-- the greater of two numbers becomes the smaller one
abbrev pub lowered : ℕ → ℕ → ℕ → ℕ
lowered m n class = if class == max m n then min m n else class
