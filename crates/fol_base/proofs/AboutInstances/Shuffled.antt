-- Two substitutions in one: the first at the even numbers, the second at the odd ones. With it a most general unifier of terms
-- whose variables are different ones is shown to be one.
use Rattle.std.proofs.Common.{◌≡◌, ℕ, zero, suc, refl}
use Rattle.fol_base.specs.Instance.{Substitution}
use Rattle.fol_base.specs.Examples.{even, odd}

-- ρ at the even numbers, π at the odd ones
abbrev pub shuffled : Substitution → Substitution → Substitution
shuffled ρ π zero = ρ zero
shuffled ρ π (suc zero) = π zero
shuffled ρ π (suc (suc v)) = shuffled (λ w. ρ (suc w)) (λ w. π (suc w)) v

pub shuffled-even : (ρ π : Substitution) (v : ℕ) → ρ v ≡ shuffled ρ π (even v)
shuffled-even ρ π zero = refl
shuffled-even ρ π (suc v) = shuffled-even (λ w. ρ (suc w)) (λ w. π (suc w)) v

pub shuffled-odd : (ρ π : Substitution) (v : ℕ) → π v ≡ shuffled ρ π (odd v)
shuffled-odd ρ π zero = refl
shuffled-odd ρ π (suc v) = shuffled-odd (λ w. ρ (suc w)) (λ w. π (suc w)) v
