use Rattle.std.proofs.Common.{◌≡◌, ℕ, ◌+◌, ◌*◌, ◌<◌, Bool, List, ◌∷◌, map, length}
use Rattle.fol_base.specs.Kind.{PutsFunctionTerms}
use Rattle.fol_base.specs.Instance.{Substitution}
use Rattle.fol_base.specs.Lent.{lent_of}
use Rattle.subsume.specs.Kinds.{AreLiterals}
use Rattle.subsume.specs.Placing.{IsPlaced}
use Rattle.subsume.proofs.placing.+place.Given as goal

abbrev pub decreases-place : goal.decreases-place
decreases-place l = 3 * length l.patterns.now

abbrev pub decreases-place_onto : goal.decreases-place_onto
decreases-place_onto l = 3 * length l.rest.now + 2

abbrev pub decreases-place_sides : goal.decreases-place_sides
decreases-place_sides l = 3 * length l.rest.now + 1

-- the marks are as at the beginning, and the pattern stands at no target so far
abbrev pub invariant-place-loop-at : goal.invariant-place-loop-at
invariant-place-loop-at l =
    (l.used ≡ l.fn.used)
    × ((is_predicate : ℕ → Bool) → AreLiterals is_predicate (lent_of l.pattern ∷ map lent_of l.rest) → AreLiterals is_predicate (map lent_of l.targets)
    → (σ : Substitution) → PutsFunctionTerms is_predicate σ → (k : ℕ) (places : List ℕ) → k < l.at
    → IsPlaced l.used (lent_of l.pattern ∷ map lent_of l.rest) (map lent_of l.targets) l.so_far σ (k ∷ places) → ⊥)
