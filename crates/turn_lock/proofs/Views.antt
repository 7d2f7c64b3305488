-- Lemmas on the views of all seats: who holds the gate, and who owns a place.
use Rattle.std.proofs.Common.{◌≡◌, ◌≢◌, ℕ, ◌<◌, ◌⊎◌, List, set, None, sym, ap, ◌∙◌, subst, ⊎_elim, arith}
use Rattle.std.specs.List.{Contains}
use Rattle.std.proofs.lemmas.Option.{none-some}
use mathlib.Core.Option.{some}
use mathlib.Core.Logic.{dite}
use native.Mathlib.Decide.{ℕ_discrete}
use lib.ListN.{get_elem?}
use Rattle.atomic_table.proofs.Lists.{set_else}
use Rattle.turn_lock.specs.declared.view.View.{View}
use Rattle.turn_lock.specs.Rule.{Made, IsKnown, IsHeldBy, IsOwned}
use Rattle.turn_lock.proofs.Lists.{set_there, same_at, contains_none}

-- of two seats before a join that are one, the seats after it are one
pub same_seat : (id other i j a b : ℕ) → (a ≡ i) ⊎ ((a ≡ other) × (i ≡ id)) → (b ≡ j) ⊎ ((b ≡ other) × (j ≡ id)) → i ≢ other → j ≢ other → a ≡ b → i ≡ j
same_seat id other i j a b p q ni nj e = ⊎_elim
    (λ (t : a ≡ i). ⊎_elim (λ (u : b ≡ j). sym t ∙ (e ∙ u)) (λ (u : (b ≡ other) × (j ≡ id)). absurd (ni (sym t ∙ (e ∙ u.0)))) q)
    (λ (t : (a ≡ other) × (i ≡ id)). ⊎_elim (λ (u : b ≡ j). absurd (nj (sym u ∙ (sym e ∙ t.0)))) (λ (u : (b ≡ other) × (j ≡ id)). t.1 ∙ sym u.1) q)
    p

module _ {E O : Type 0} where
  -- the holder's view stays, where another view without the gate is changed
  pub still_held : (holder : ℕ) (log : List E) (views : List (View E O)) (id : ℕ) (v w : View E O) → get_elem? views id ≡ some v → v.held ≡ None → IsHeldBy holder log views → IsHeldBy holder log (set views id w)
  still_held holder log views id v w at free h = (h.0, set_else views id holder w other ∙ h.1, h.2)
    where
      other : holder ≢ id
      other e = none-some log (sym free ∙ ap (λ (z : View E O). z.held) (same_at views id v h.0 at (subst (λ (z : ℕ). get_elem? views z ≡ some h.0) e h.1)) ∙ h.2)

  -- a place stays owned at its seat where the one view that is changed owns no less
  pub still_owned_at : (views : List (View E O)) (id : ℕ) (v w : View E O) → get_elem? views id ≡ some v → ((k : ℕ) → Contains v.own k → Contains w.own k) → (k : ℕ) (o : IsOwned k views) → (x : View E O) × (get_elem? (set views id w) o.0 ≡ some x) × Contains x.own k
  still_owned_at views id v w at more k o = dite (ℕ_discrete o.0 id)
      (λ e. (w, subst (λ (z : ℕ). get_elem? (set views id w) z ≡ some w) (sym e) (set_there views id v w at), more k (subst (λ (z : View E O). Contains z.own k) (same_at views id o.1 v (subst (λ (z : ℕ). get_elem? views z ≡ some o.1) e o.2) at) o.3)))
      (λ ne. (o.1, set_else views id o.0 w ne ∙ o.2, o.3))

  pub still_owned : (views : List (View E O)) (id : ℕ) (v w : View E O) → get_elem? views id ≡ some v → ((k : ℕ) → Contains v.own k → Contains w.own k) → (k : ℕ) → IsOwned k views → IsOwned k (set views id w)
  still_owned views id v w at more k o = let p = still_owned_at views id v w at more k o in (o.0, p.0, p.1, p.2)

  module _ (key_of : E → ℕ) where
    -- who owns a place is live
    pub owner_lives : (gate holder : ℕ) (log : List E) (made : Made E O) (j k : ℕ) (v : View E O) → IsKnown key_of gate holder log made j v → Contains v.own k → 0 < v.shares
    owner_lives gate holder log made j k v known has = dite (ℕ_discrete v.shares 0)
        (λ none_left. absurd (contains_none k (subst (λ (l : List ℕ). Contains l k) (known.spent none_left) has)))
        (λ some_left. omega (arith, some_left))
