-- The values by code agree with the slots.
use Rattle.std.proofs.Common.{◌≡◌, ℕ, ◌<◌, ◌≤◌, Bool, true, false, not, ◌&&◌, List, length, set, ap, sym, ◌∙◌, arith, ◌⊎◌, inl, inr, ⊎_elim}
use mathlib.Core.Bool.{beq}
use Rattle.std.specs.Prelude.{IsTrue}
use Rattle.std.proofs.lemmas.Bool.{cases_eq, cases_lt}
use Rattle.std.proofs.lemmas.List.{length-set, get_or-set_same, get_or-set_other, get_or_past}
use Rattle.plain_types.specs.declared.sequence.NameLit.{NameLit}
use Rattle.plain_types.specs.Names.{opposite}
use Rattle.sat_core.specs.declared.trail.Slot.{Slot}
use Rattle.sat_core.specs.declared.values.Value.{Value}
use Rattle.sat_core.specs.declared.values.Value.TheVariants.{Open, False}
use Rattle.sat_core.specs.Trail.{has_place, is_false}
use Rattle.sat_core.specs.Literals.{code_of}
use Rattle.sat_core.specs.Values.{value_at, AreSlotValues}

-- a literal with the name is the one or its opposite
one_of_two : (k l : NameLit) → k.name ≡ l.name → (k ≡ l) ⊎ (k ≡ opposite l)
one_of_two k l e = of k.positive l.positive k.name l.name e
  where
    of : (p q : Bool) (a b : ℕ) → a ≡ b
        → (◌≡◌ {A = NameLit} (record { positive = p; name = a }) (record { positive = q; name = b })) ⊎ (◌≡◌ {A = NameLit} (record { positive = p; name = a }) (record { positive = not q; name = b }))
    of true true a b e = inl (ap (λ (n : ℕ). record { positive = true; name = n }) e)
    of true false a b e = inr (ap (λ (n : ℕ). record { positive = true; name = n }) e)
    of false true a b e = inr (ap (λ (n : ℕ). record { positive = false; name = n }) e)
    of false false a b e = inl (ap (λ (n : ℕ). record { positive = false; name = n }) e)

-- what is written is read, but where there is no place for it
written : (values : List Value) (c d : ℕ) (v : Value) → d ≡ c → (v ≡ False → ⊥) → value_at (set values c v) d ≡ False → ⊥
written values c d v e other h =
    ⊎_elim
    (λ (w : c < length values). other (sym (ap (value_at (set values c v)) e ∙ get_or-set_same values c v Open w) ∙ h))
    (λ (w : length values ≤ c). open_false (sym (get_or_past (set values c v) d Open (let n = length-set values c v in omega (arith, n, w, e))) ∙ h))
    (cases_lt c (length values))
  where
    open_false : ◌≡◌ {A = Value} Open False → ⊥
    open_false e = cc

other_slot : (slots : List Slot) (k l : NameLit) (s : Slot) → (k.name ≡ l.name → ⊥) → IsTrue (is_false slots k) → IsTrue (is_false (set slots l.name s) k)
other_slot slots k l s apart h =
    ap (λ (x : Slot). has_place x && not (beq x.positive k.positive)) (get_or-set_other slots l.name k.name s _ apart) ∙ h

pub popped_values :
    (values : List Value) (slots : List Slot) (l : NameLit) (s : Slot)
    → AreSlotValues values slots
    → AreSlotValues (set (set values (code_of l) Open) (code_of (opposite l)) Open) (set slots l.name s)
popped_values values slots l s are k h =
    ⊎_elim (λ e. absurd (written (set values (code_of l) Open) (code_of (opposite l)) (code_of k) Open e open_false h))
    (λ n. ⊎_elim (λ e. absurd (written values (code_of l) (code_of k) Open e open_false (earlier n))) (before n) (cases_eq (code_of k) (code_of l)))
    (cases_eq (code_of k) (code_of (opposite l)))
  where
    open_false : ◌≡◌ {A = Value} Open False → ⊥
    open_false e = cc

    earlier : (code_of k ≡ code_of (opposite l) → ⊥) → value_at (set values (code_of l) Open) (code_of k) ≡ False
    earlier n = sym (get_or-set_other (set values (code_of l) Open) (code_of (opposite l)) (code_of k) Open Open n) ∙ h

    before : (code_of k ≡ code_of (opposite l) → ⊥) → (code_of k ≡ code_of l → ⊥) → IsTrue (is_false (set slots l.name s) k)
    before n m =
        other_slot slots k l s
        (λ q. ⊎_elim (λ (e : k ≡ l). m (ap code_of e)) (λ (e : k ≡ opposite l). n (ap code_of e)) (one_of_two k l q))
        (are k (sym (get_or-set_other values (code_of l) (code_of k) Open Open m) ∙ earlier n))
