-- A set of members, and what is known of their features.
use Rattle.std.specs.Prelude.{◌≡◌, ℕ, true, List, map, nat_eq, Some, All}
use Rattle.std.specs.Map.{lookup}
use Rattle.fol_base.specs.Subsumption.{all_different}
use Rattle.bank_clause.specs.Clause.{clause_at}
use Rattle.bank_clause.specs.declared.member.Member.{Member}
use Rattle.subsume.specs.Features.{AreFeaturesOf}
use Rattle.subsume.specs.declared.vector.Features.{Features}

abbrev pub numbers_of : List Member → List ℕ
numbers_of ms = map (λ (m : Member). m.number) ms

-- the features of a member are found by its number
abbrev pub IsKnownIn : List (ℕ × Features) → Member → Type 0
IsKnownIn known m = (f : Features) × (lookup (nat_eq m.number) known ≡ Some f) × AreFeaturesOf (clause_at m.clause).literals f.values

-- no number stands twice, and the features of each member are known
pub record AreKnown (ms : List Member) (known : List (ℕ × Features)) : Type 0 where
  pub once : all_different (numbers_of ms) ≡ true
  pub found : All (IsKnownIn known) ms
