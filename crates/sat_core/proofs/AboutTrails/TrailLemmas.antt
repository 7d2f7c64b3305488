-- Steps of the trail.
use Rattle.std.proofs.Common.{◌≡◌, ℕ, zero, suc, ◌+◌, ◌-◌, ◌<◌, ◌≤◌, Bool, false, cond, List, [], ◌∷◌, ◌++◌, length, get_or, set, take, refl, ap, sym, ◌∙◌, subst, arith, ◌⊎◌, inl, inr, ⊎_elim}
use Rattle.std.specs.Prelude.{count_by, nat_le, nat_lt}
use Rattle.std.proofs.lemmas.Bool.{cases_eq, cases_lt, lt-ltb, le-leb, lt-leb, cond-true, cond-false}
use Rattle.std.proofs.lemmas.List.{get_or_append_left, get_or_push, get_or-set_same, get_or-set_other, get_or_past, length_push, length-set, length-take-le, take_at, take-take, get_or_default}
use Rattle.std.proofs.Math.Seq.{take-length}
use Rattle.std.proofs.lemmas.List.Sums.{sum_by-set, sum_by-cons}
use Rattle.plain_types.specs.declared.sequence.NameLit.{NameLit}
use Rattle.sat_core.specs.declared.trail.Assigned.{Assigned}
use Rattle.sat_core.specs.declared.trail.Slot.{Slot}
use Rattle.sat_core.specs.Trail.{IsTrail, Cuts, entry_at, slot_at, slot_of, place_of, has_place, cut_slot}

-- a name that has a value has a slot
pub slot_within : (slots : List Slot) (v : ℕ) → 0 < (slot_at slots v).place → v < length slots
slot_within slots v h =
    ⊎_elim (λ (l : v < length slots). l)
    (λ (l : length slots ≤ v).
    let e : (slot_at slots v).place ≡ 0 = ap (λ (s : Slot). s.place) (get_or_past slots v _ l) in absurd (omega arith))
    (cases_lt v (length slots))

-- the value of an entry's name stands at its index
placed_place :
    (entries : List Assigned) (slots : List Slot) (i : ℕ) → IsTrail entries slots → i < length entries
    → place_of slots (entry_at entries i).literal ≡ i + 1
placed_place entries slots i t h = ap (λ (s : Slot). s.place) (t.placed i h)

counted_more :
    (slots : List Slot) (v n : ℕ) (s : Slot)
    → v < length slots → (slot_at slots v).place ≡ 0 → 0 < s.place → count_by has_place slots ≡ n
    → count_by has_place (set slots v s) ≡ n + 1
counted_more slots v n s h free used e =
    let f : Slot → ℕ = λ s. cond (has_place s) 1 0 in
    let step = sum_by-set f slots v s (record { place = 0; positive = false }) h in
    let old : f (slot_at slots v) ≡ 0 = ap (λ (p : ℕ). cond (nat_lt 0 p) 1 0) free in
    let new : f s ≡ 1 = cond-true (nat_lt 0 s.place) 1 0 (lt-ltb 0 s.place used) in
    omega (arith, step, old, new, e)

counted_less :
    (slots : List Slot) (v n : ℕ) (s : Slot)
    → v < length slots → 0 < (slot_at slots v).place → s.place ≡ 0 → count_by has_place slots ≡ n + 1
    → count_by has_place (set slots v s) ≡ n
counted_less slots v n s h used free e =
    let f : Slot → ℕ = λ s. cond (has_place s) 1 0 in
    let step = sum_by-set f slots v s (record { place = 0; positive = false }) h in
    let new : f s ≡ 0 = ap (λ (p : ℕ). cond (nat_lt 0 p) 1 0) free in
    let old : f (slot_at slots v) ≡ 1 = cond-true (nat_lt 0 (slot_at slots v).place) 1 0 (lt-ltb 0 _ used) in
    omega (arith, step, old, new, e)

-- ---- one more entry

pub pushed :
    (entries : List Assigned) (slots : List Slot) (e : Assigned)
    → IsTrail entries slots → e.literal.name < length slots → place_of slots e.literal ≡ 0
    → IsTrail (entries ++ e ∷ []) (set slots e.literal.name (slot_of (length entries) e))
pushed entries slots e t named free = record {
  placed = λ i h. ⊎_elim (old i) (λ (l : length entries ≤ i). new i (omega (arith, length_push entries e))) (cases_lt i (length entries));
  known = λ v i h. ⊎_elim (known_new v i h) (known_old v i h) (cases_eq v e.literal.name);
  counted =
      counted_more slots e.literal.name (length entries) (slot_of (length entries) e) named free (omega arith) t.counted
      ∙ sym (length_push entries e);
}
  where
    slots' : List Slot
    slots' = set slots e.literal.name (slot_of (length entries) e)

    earlier : (i : ℕ) → i < length entries → entry_at (entries ++ e ∷ []) i ≡ entry_at entries i
    earlier i h = get_or_append_left entries (e ∷ []) _ i h

    last : (i : ℕ) → i ≡ length entries → entry_at (entries ++ e ∷ []) i ≡ e
    last i h = get_or_push entries e _ i (sym h)

    other : (v : ℕ) → (v ≡ e.literal.name → ⊥) → slot_at slots' v ≡ slot_at slots v
    other v h = get_or-set_other slots e.literal.name v _ _ h

    same : slot_at slots' e.literal.name ≡ slot_of (length entries) e
    same = get_or-set_same slots e.literal.name _ _ named

    old : (i : ℕ) → i < length entries → slot_at slots' (entry_at (entries ++ e ∷ []) i).literal.name ≡ slot_of i (entry_at (entries ++ e ∷ []) i)
    old i h =
        subst (λ (x : Assigned). slot_at slots' x.literal.name ≡ slot_of i x) (sym (earlier i h))
        (other (entry_at entries i).literal.name
        (λ q. let p = placed_place entries slots i t h in
        let z : (slot_at slots (entry_at entries i).literal.name).place ≡ 0 = ap (λ (v : ℕ). (slot_at slots v).place) q ∙ free in
        omega (arith, p, z))
        ∙ t.placed i h)

    new : (i : ℕ) → i ≡ length entries → slot_at slots' (entry_at (entries ++ e ∷ []) i).literal.name ≡ slot_of i (entry_at (entries ++ e ∷ []) i)
    new i h =
        subst (λ (x : Assigned). slot_at slots' x.literal.name ≡ slot_of i x) (sym (last i h))
        (same ∙ ap (λ (k : ℕ). slot_of k e) (sym h))

    known_new :
        (v i : ℕ) → (slot_at slots' v).place ≡ i + 1 → v ≡ e.literal.name
        → (i < length (entries ++ e ∷ [])) × ((entry_at (entries ++ e ∷ []) i).literal ≡ record { positive = (slot_at slots' v).positive; name = v })
    known_new v i h q =
        let s : slot_at slots' v ≡ slot_of (length entries) e = ap (slot_at slots') q ∙ same in
        let at : i ≡ length entries = let p = ap (λ (s : Slot). s.place) s in omega (arith, p, h) in (
          omega (arith, length_push entries e),
          ap (λ (x : Assigned). x.literal) (last i at) ∙ literal_is e.literal.positive (slot_at slots' v).positive v (sym (ap (λ (s : Slot). s.positive) s)) q,
        )
      where
        literal_is : (a b : Bool) (v : ℕ) → a ≡ b → v ≡ e.literal.name → ◌≡◌ {A = NameLit} (record { positive = a; name = e.literal.name }) (record { positive = b; name = v })
        literal_is a b v f g = cc

    known_old :
        (v i : ℕ) → (slot_at slots' v).place ≡ i + 1 → (v ≡ e.literal.name → ⊥)
        → (i < length (entries ++ e ∷ [])) × ((entry_at (entries ++ e ∷ []) i).literal ≡ record { positive = (slot_at slots' v).positive; name = v })
    known_old v i h q =
        let k = t.known v i (sym (ap (λ (s : Slot). s.place) (other v q)) ∙ h) in (
          omega (arith, length_push entries e, k.0),
          ap (λ (x : Assigned). x.literal) (earlier i k.0) ∙ k.1
              ∙ ap (λ (s : Slot). record { positive = s.positive; name = v }) (sym (other v q)),
        )

-- as the code does it
pub pushed_at :
    (entries entries' : List Assigned) (slots : List Slot) (e : Assigned) (place : ℕ)
    → IsTrail entries slots → e.literal.name < length slots → place_of slots e.literal ≡ 0
    → entries' ≡ entries ++ e ∷ [] → place ≡ length entries + 1
    → IsTrail entries' (set slots e.literal.name (record { place = place; positive = e.literal.positive }))
pushed_at entries entries' slots e place t named free more at =
    subst (λ (es : List Assigned). IsTrail es (set slots e.literal.name (record { place = place; positive = e.literal.positive }))) (sym more)
    (subst (λ (p : ℕ). IsTrail (entries ++ e ∷ []) (set slots e.literal.name (record { place = p; positive = e.literal.positive }))) (sym at)
    (pushed entries slots e t named free))

-- ---- one entry less

pub popped :
    (entries es : List Assigned) (slots slots' : List Slot) (e : Assigned)
    → IsTrail entries slots → entries ≡ es ++ e ∷ []
    → slots' ≡ set slots e.literal.name (record { place = 0; positive = (slot_at slots e.literal.name).positive })
    → Cuts (length entries - 1) entries slots es slots'
popped entries es slots slots' e t split written = record {
  trail = record {
    placed = λ i h.
        sym (ap (λ (x : Assigned). slot_at slots' x.literal.name) (earlier i h))
        ∙ other (entry_at entries i).literal.name (λ q. differ i h q)
        ∙ t.placed i (omega (arith, count, h)) ∙ ap (slot_of i) (earlier i h);
    known = λ v i h. known_left v i h (cases_eq v e.literal.name);
    counted =
        ap (count_by has_place) written
        ∙ counted_less slots e.literal.name (length es) _ named used refl (t.counted ∙ count);
  };
  entries_left = sym (ap (λ (n : ℕ). take n entries) (omega (arith, count)) ∙ ap (take (length es)) split ∙ take_at es (e ∷ []) (length es) refl);
  slots_left = λ v. left v (cases_eq v e.literal.name);
  same_length = ap length written ∙ length-set slots e.literal.name _;
}
  where
    count : length entries ≡ length es + 1
    count = ap length split ∙ length_push es e

    last : entry_at entries (length es) ≡ e
    last = ap (λ (xs : List Assigned). entry_at xs (length es)) split ∙ get_or_push es e _ (length es) refl

    earlier : (i : ℕ) → i < length es → entry_at entries i ≡ entry_at es i
    earlier i h = ap (λ (xs : List Assigned). entry_at xs i) split ∙ get_or_append_left es (e ∷ []) _ i h

    at_last : slot_at slots e.literal.name ≡ slot_of (length es) e
    at_last =
        let p = t.placed (length es) (omega (arith, count)) in
        subst (λ (x : Assigned). slot_at slots x.literal.name ≡ slot_of (length es) x) last p

    used : 0 < (slot_at slots e.literal.name).place
    used = let p = ap (λ (s : Slot). s.place) at_last in omega (arith, p)

    named : e.literal.name < length slots
    named = slot_within slots e.literal.name used

    other : (v : ℕ) → (v ≡ e.literal.name → ⊥) → slot_at slots' v ≡ slot_at slots v
    other v h = ap (λ (s : List Slot). slot_at s v) written ∙ get_or-set_other slots e.literal.name v _ _ h

    same : slot_at slots' e.literal.name ≡ record { place = 0; positive = (slot_at slots e.literal.name).positive }
    same = ap (λ (s : List Slot). slot_at s e.literal.name) written ∙ get_or-set_same slots e.literal.name _ _ named

    differ : (i : ℕ) → i < length es → (entry_at entries i).literal.name ≡ e.literal.name → ⊥
    differ i h q =
        let p = placed_place entries slots i t (omega (arith, count, h)) in
        let z : (slot_at slots (entry_at entries i).literal.name).place ≡ length es + 1 =
        ap (λ (v : ℕ). (slot_at slots v).place) q ∙ ap (λ (s : Slot). s.place) at_last in
        omega (arith, p, z, h)

    known_left :
        (v i : ℕ) → (slot_at slots' v).place ≡ i + 1 → (v ≡ e.literal.name) ⊎ (v ≡ e.literal.name → ⊥)
        → (i < length es) × ((entry_at es i).literal ≡ record { positive = (slot_at slots' v).positive; name = v })
    known_left v i h (inl q) =
        let z = ap (λ (w : ℕ). (slot_at slots' w).place) q ∙ ap (λ (s : Slot). s.place) same in absurd (omega (arith, z, h))
    known_left v i h (inr q) =
        let k = t.known v i (sym (ap (λ (s : Slot). s.place) (other v q)) ∙ h) in
        let apart : i ≡ length es → ⊥ = λ at. q (sym (ap (λ (l : NameLit). l.name) k.1) ∙ ap (λ (n : ℕ). (entry_at entries n).literal.name) at ∙ ap (λ (x : Assigned). x.literal.name) last) in
        let within : i < length es = ⊎_elim (λ (l : i < length es). l) (λ (l : length es ≤ i). absurd (apart (omega (arith, k.0, count, l)))) (cases_lt i (length es)) in (
          within,
          sym (ap (λ (x : Assigned). x.literal) (earlier i within)) ∙ k.1
              ∙ ap (λ (s : Slot). record { positive = s.positive; name = v }) (sym (other v q)),
        )

    left : (v : ℕ) → (v ≡ e.literal.name) ⊎ (v ≡ e.literal.name → ⊥) → slot_at slots' v ≡ cut_slot (length entries - 1) (slot_at slots v)
    left v (inl q) =
        ap (slot_at slots') q ∙ same
        ∙ ap (λ (p : ℕ). record { place = p; positive = (slot_at slots e.literal.name).positive })
        (sym (cond-false (nat_le (slot_at slots e.literal.name).place (length entries - 1)) _ 0
        (let p = ap (λ (s : Slot). s.place) at_last in lt-leb _ _ (omega (arith, p, count)))))
        ∙ ap (λ (w : ℕ). cut_slot (length entries - 1) (slot_at slots w)) (sym q)
    left v (inr q) =
        other v q
        ∙ ap (λ (p : ℕ). record { place = p; positive = (slot_at slots v).positive })
        (sym (cond-true (nat_le (slot_at slots v).place (length entries - 1)) (slot_at slots v).place 0
        (le-leb _ _ (low (slot_at slots v).place refl))))
      where
        low : (p : ℕ) → (slot_at slots v).place ≡ p → (slot_at slots v).place ≤ length entries - 1
        low zero h = omega (arith, h)
        low (suc i) h =
            let k = t.known v i (h ∙ omega arith) in
            let apart : i ≡ length es → ⊥ = λ at. q (sym (ap (λ (l : NameLit). l.name) k.1) ∙ ap (λ (n : ℕ). (entry_at entries n).literal.name) at ∙ ap (λ (x : Assigned). x.literal.name) last) in
            ⊎_elim (λ (l : i < length es). omega (arith, h, count, l)) (λ (l : length es ≤ i). absurd (apart (omega (arith, k.0, count, l)))) (cases_lt i (length es))

-- as the code does it, by the slot that it read
pub popped_at :
    (entries es : List Assigned) (slots : List Slot) (e : Assigned) (s : Slot)
    → IsTrail entries slots → entries ≡ es ++ e ∷ [] → s ≡ get_or slots e.literal.name s
    → Cuts (length entries - 1) entries slots es (set slots e.literal.name (record { place = 0; positive = s.positive }))
popped_at entries es slots e s t split read =
    popped entries es slots _ e t split
    (ap (λ (x : Slot). set slots e.literal.name (record { place = 0; positive = x.positive }))
    (read ∙ get_or_default slots e.literal.name s _ named))
  where
    named : e.literal.name < length slots
    named =
        let count : length entries ≡ length es + 1 = ap length split ∙ length_push es e in
        let last : entry_at entries (length es) ≡ e = ap (λ (xs : List Assigned). entry_at xs (length es)) split ∙ get_or_push es e _ (length es) refl in
        let p = placed_place entries slots (length es) t (omega (arith, count)) in
        let q = ap (λ (x : Assigned). place_of slots x.literal) last in
        slot_within slots e.literal.name (omega (arith, p, q))

-- ---- several entries less

pub cut_slot-cut_slot : (a b : ℕ) (s : Slot) → a ≤ b → cut_slot a (cut_slot b s) ≡ cut_slot a s
cut_slot-cut_slot a b s h = ap (λ (p : ℕ). record { place = p; positive = s.positive }) (places s.place (cases_lt b s.place))
  where
    places : (p : ℕ) → (b < p) ⊎ (p ≤ b) → cond (nat_le (cond (nat_le p b) p 0) a) (cond (nat_le p b) p 0) 0 ≡ cond (nat_le p a) p 0
    places p (inl l) =
        ap (λ (t : Bool). cond (nat_le (cond t p 0) a) (cond t p 0) 0) (lt-leb p b l)
        ∙ cond-true (nat_le 0 a) 0 0 (le-leb 0 a (omega arith))
        ∙ sym (cond-false (nat_le p a) p 0 (lt-leb p a (omega arith)))
    places p (inr l) = ap (λ (t : Bool). cond (nat_le (cond t p 0) a) (cond t p 0) 0) (le-leb p b l)

pub cut_again :
    (a b : ℕ) (entries entries' entries'' : List Assigned) (slots slots' slots'' : List Slot)
    → a ≤ b → Cuts b entries slots entries' slots' → Cuts a entries' slots' entries'' slots'' → Cuts a entries slots entries'' slots''
cut_again a b entries entries' entries'' slots slots' slots'' h first second = record {
  trail = second.trail;
  entries_left = second.entries_left ∙ ap (take a) first.entries_left ∙ take-take a b entries h;
  slots_left = λ v. second.slots_left v ∙ ap (cut_slot a) (first.slots_left v) ∙ cut_slot-cut_slot a b (slot_at slots v) h;
  same_length = second.same_length ∙ first.same_length;
}

-- nothing is taken back
pub cut_none : (entries : List Assigned) (slots : List Slot) → IsTrail entries slots → Cuts (length entries) entries slots entries slots
cut_none entries slots t = record {
  trail = t;
  entries_left = sym (take-length entries);
  slots_left = λ v. ap (λ (p : ℕ). record { place = p; positive = (slot_at slots v).positive })
      (sym (cond-true (nat_le (slot_at slots v).place (length entries)) (slot_at slots v).place 0
      (le-leb _ _ (low v (slot_at slots v).place refl))));
  same_length = refl;
}
  where
    low : (v p : ℕ) → (slot_at slots v).place ≡ p → (slot_at slots v).place ≤ length entries
    low v zero h = omega (arith, h)
    low v (suc i) h = let k = t.known v i (h ∙ omega arith) in omega (arith, h, k.0)

pub cut_length :
    (n : ℕ) (entries entries' : List Assigned) (slots slots' : List Slot)
    → n ≤ length entries → Cuts n entries slots entries' slots' → length entries' ≡ n
cut_length n entries entries' slots slots' h cuts = ap length cuts.entries_left ∙ length-take-le n entries h

-- one more is taken back
pub cut_more :
    (entries entries' entries'' : List Assigned) (slots slots' slots'' : List Slot)
    → Cuts (length entries') entries slots entries' slots' → Cuts (length entries' - 1) entries' slots' entries'' slots''
    → Cuts (length entries'') entries slots entries'' slots''
cut_more entries entries' entries'' slots slots' slots'' first second =
    subst (λ (n : ℕ). Cuts n entries slots entries'' slots'') (sym (cut_length (length entries' - 1) entries' entries'' slots' slots'' (omega arith) second))
    (cut_again (length entries' - 1) (length entries') entries entries' entries'' slots slots' slots'' (omega arith) first second)

-- ---- no values

-- no name has a value
abbrev pub AreFree : List Slot → Type 0
AreFree slots = (v : ℕ) → (slot_at slots v).place ≡ 0

pub free_none : (slots : List Slot) → slots ≡ [] → AreFree slots
free_none slots e v = ap (λ (xs : List Slot). (slot_at xs v).place) e

pub free_more : (slots slots' : List Slot) (positive : Bool) → slots' ≡ slots ++ record { place = 0; positive = positive } ∷ [] → AreFree slots → AreFree slots'
free_more slots slots' positive more free v = ap (λ (xs : List Slot). (slot_at xs v).place) more ∙ at slots v free
  where
    at : (slots : List Slot) (v : ℕ) → AreFree slots → (slot_at (slots ++ record { place = 0; positive = positive } ∷ []) v).place ≡ 0
    at [] zero free = refl
    at [] (suc v) free = refl
    at (s ∷ slots) zero free = free zero
    at (s ∷ slots) (suc v) free = at slots v (λ (w : ℕ). free (suc w))

pub free_trail : (entries : List Assigned) (slots : List Slot) → entries ≡ [] → AreFree slots → IsTrail entries slots
free_trail entries slots none free = record {
  placed = λ i h. absurd (let e = ap length none in omega (arith, e, h));
  known = λ v i h. absurd (let e = free v in omega (arith, e, h));
  counted = counts slots free ∙ sym (ap length none);
}
  where
    counts : (slots : List Slot) → AreFree slots → count_by has_place slots ≡ 0
    counts [] free = refl
    counts (s ∷ slots) free =
        let f : Slot → ℕ = λ s. cond (has_place s) 1 0 in
        let step = sum_by-cons f s slots in
        let here : f s ≡ 0 = ap (λ (p : ℕ). cond (nat_lt 0 p) 1 0) (free zero) in
        let rest = counts slots (λ (v : ℕ). free (suc v)) in
        omega (arith, step, here, rest)
