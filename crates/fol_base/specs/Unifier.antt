-- Unifiers, most general unifiers and matchers (Robinson 1965).
use Rattle.std.specs.Prelude.{◌≡◌, ℕ}
use Rattle.fol_base.specs.Tree.{Tree}
use Rattle.fol_base.specs.Instance.{Substitution, instance}

-- σ makes the two trees equal
abbrev pub IsUnifier : Tree → Tree → Substitution → Type 0
IsUnifier s t σ = instance σ s ≡ instance σ t

-- a unifier σ such that each unifier of the two trees is σ followed by some substitution
pub record IsMostGeneralUnifier (s : Tree) (t : Tree) (σ : Substitution) : Type 0 where
  pub unifies : IsUnifier s t σ
  pub is_general :
      (ρ : Substitution) → IsUnifier s t ρ
      → (then_by : Substitution) × ((v : ℕ) → ρ v ≡ instance then_by (σ v))

-- a unifier of two trees that share no variables, whatever the variables' numbers: a substitution for each tree
abbrev pub IsUnifierApart : Tree → Tree → Substitution → Substitution → Type 0
IsUnifierApart s t σ τ = instance σ s ≡ instance τ t

-- a unifier of such trees from which each other follows by some substitution
pub record IsMostGeneralUnifierApart (s : Tree) (t : Tree) (σ : Substitution) (τ : Substitution) : Type 0 where
  pub unifies : IsUnifierApart s t σ τ
  pub is_general :
      (ρ π : Substitution) → IsUnifierApart s t ρ π
      → (then_by : Substitution) × ((v : ℕ) → ρ v ≡ instance then_by (σ v)) × ((v : ℕ) → π v ≡ instance then_by (τ v))

-- σ turns the pattern into the target
abbrev pub IsMatcher : Tree → Tree → Substitution → Type 0
IsMatcher pattern target σ = instance σ pattern ≡ target
