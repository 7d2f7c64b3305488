-- The Knuth-Bendix order with its variable condition for some variables alone: a term is greater exactly where it is for each block
-- of variables.
use Rattle.std.specs.Prelude.{◌≡◌, ℕ, ◌+◌, ◌<◌, ◌≤◌, ◌⊎◌}
use Rattle.fol_base.specs.Tree.{Tree, variable, application, Trees, no_trees, tree_then, tree_size}
use Rattle.fol_base.specs.Order.{occurrences}
use Rattle.kbo_order.specs.declared.cmp.Cmp.{Cmp}
use Rattle.kbo_order.specs.declared.cmp.Cmp.TheVariants.{Greater, Less, Equal, Unordered}

-- the meaning of an answer on two things, by a relation of exceeding
abbrev pub Answers : {X : Type 0} → (X → X → Type 0) → Cmp → X → X → Type 0
Answers Exceeds Greater x y = Exceeds x y
Answers Exceeds Less x y = Exceeds y x
Answers Exceeds Equal x y = x ≡ y
Answers Exceeds Unordered x y = (x ≡ y → ⊥) × (Exceeds x y → ⊥) × (Exceeds y x → ⊥)

-- the 32 variables from start on
abbrev pub InBlock : ℕ → ℕ → Type 0
InBlock start v = (start ≤ v) × (v < start + 32)

-- the variables before start
abbrev pub Below : ℕ → ℕ → Type 0
Below start v = v < start

-- one is greater
abbrev pub IsStrict : Cmp → Type 0
IsStrict Greater = Unit {0}
IsStrict Less = Unit {0}
IsStrict Equal = ⊥
IsStrict Unordered = ⊥

abbrev pub HasVariablesOn : (ℕ → Type 0) → Tree → Tree → Type 0
HasVariablesOn Counted s t = (v : ℕ) → Counted v → occurrences v t ≤ occurrences v s

abbrev pub ExceedsOn : (ℕ → Type 0) → Tree → Tree → Type 0 → Type 0
ExceedsOn Counted s t Tie = HasVariablesOn Counted s t × ((tree_size t < tree_size s) ⊎ ((tree_size s ≡ tree_size t) × Tie))

abbrev mutual
  pub GreaterOn : (ℕ → Type 0) → Tree → Tree → Type 0
  GreaterOn Counted (variable v) t = ExceedsOn Counted (variable v) t ⊥
  GreaterOn Counted (application f ts) (variable w) = ExceedsOn Counted (application f ts) (variable w) ⊥
  GreaterOn Counted (application f ts) (application g us) =
      ExceedsOn Counted (application f ts) (application g us) ((g < f) ⊎ ((f ≡ g) × AllGreaterOn Counted ts us))

  pub AllGreaterOn : (ℕ → Type 0) → Trees → Trees → Type 0
  AllGreaterOn Counted no_trees us = ⊥
  AllGreaterOn Counted (tree_then t ts) no_trees = ⊥
  AllGreaterOn Counted (tree_then t ts) (tree_then u us) = GreaterOn Counted t u ⊎ ((t ≡ u) × AllGreaterOn Counted ts us)

-- the order of two terms of equal size: by the heads, and for equal heads by the arguments
abbrev pub TieOn : (ℕ → Type 0) → Tree → Tree → Type 0
TieOn Counted (variable v) t = ⊥
TieOn Counted (application f ts) (variable w) = ⊥
TieOn Counted (application f ts) (application g us) = (g < f) ⊎ ((f ≡ g) × AllGreaterOn Counted ts us)
