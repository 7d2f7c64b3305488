-- Chains that can't be, for the number of their pivots.
use Rattle.std.proofs.Common.{◌≡◌, suc, ◌+◌, Bool, true, false, List, [], ◌∷◌, length, Option, Some, None, refl, ap, sym, ◌∙◌, arith}
use Rattle.std.specs.Prelude.{option_and_then, if◌then◌else◌}
use Rattle.std.proofs.lemmas.Option.{none-some, same_Some}
use Rattle.plain_types.specs.declared.sequence.NameLit.{NameLit}
use Rattle.plain_types.specs.Names.{can_resolve, resolvent}
use Rattle.fol_base.proofs.WorkedExamples.TestLemmas.{option_map-some}
use Rattle.kernel_steps.specs.Names.{sorted_names, chained_from, chained}
use Rattle.kernel_steps.specs.Parents.{all_there}

chained_from-lengths :
    (names pivots : List NameLit) (mss : List (List NameLit)) → (length pivots ≡ length mss → ⊥) → chained_from names pivots mss ≡ None
chained_from-lengths names [] [] differ = absurd (differ refl)
chained_from-lengths names [] (ms ∷ mss) differ = refl
chained_from-lengths names (p ∷ ps) [] differ = refl
chained_from-lengths names (p ∷ ps) (ms ∷ mss) differ =
    either (can_resolve p names ms)
    (chained_from-lengths (sorted_names (resolvent p names ms)) ps mss (λ e. differ (ap suc e)))
  where
    either :
        (b : Bool) → chained_from (sorted_names (resolvent p names ms)) ps mss ≡ None
        → (if b then chained_from (sorted_names (resolvent p names ms)) ps mss else None) ≡ None
    either true none = none
    either false none = refl

-- a chain needs one list more than pivots
chained-lengths :
    (mss : List (List NameLit)) (pivots : List NameLit) → (length mss ≡ length pivots + 1 → ⊥) → chained mss pivots ≡ None
chained-lengths [] pivots differ = refl
chained-lengths (ms ∷ mss) pivots differ =
    chained_from-lengths (sorted_names ms) pivots mss
    (λ e. differ (let more : length (ms ∷ mss) ≡ length pivots + 1 = omega arith in more))

all_there-length : {X : Type 0} (os : List (Option X)) (xs : List X) → all_there os ≡ Some xs → length xs ≡ length os
all_there-length [] xs h = ap length (sym (same_Some [] xs h))
all_there-length (None ∷ os) xs h = absurd (none-some xs h)
all_there-length (Some x ∷ os) xs h =
    option_map-some (λ ys. x ∷ ys) (all_there os) xs h λ ys ys_is gives.
    sym (ap length gives) ∙ ap suc (all_there-length os ys ys_is)

pub no_chain :
    (os : List (Option (List NameLit))) (pivots : List NameLit)
    → (length os ≡ length pivots + 1 → ⊥) → option_and_then (λ mss. chained mss pivots) (all_there os) ≡ None
no_chain os pivots differ = looked_up (all_there os) (λ mss there. there)
  where
    looked_up :
        (o : Option (List (List NameLit))) → ((mss : List (List NameLit)) → o ≡ Some mss → all_there os ≡ Some mss)
        → option_and_then (λ mss. chained mss pivots) o ≡ None
    looked_up None there = refl
    looked_up (Some mss) there =
        chained-lengths mss pivots (λ e. differ (sym (all_there-length os mss (there mss refl)) ∙ e))
