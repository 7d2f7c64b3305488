-- What the search does keeps the trail sound.
use Rattle.std.proofs.Common.{◌≡◌, ℕ, ◌+◌, ◌<◌, ◌≤◌, true, false, not, ◌&&◌, List, [], ◌∷◌, ◌++◌, length, set, take, Option, Some, ap, sym, ◌∙◌, subst, arith, ◌⊎◌, inl, inr, ⊎_elim}
use mathlib.Core.Bool.{beq}
use Rattle.std.specs.Prelude.{IsTrue, nat_le, is_none}
use Rattle.std.proofs.lemmas.Bool.{cases_Bool, cases_lt, and_parts, le-leb, leb-true, lt-leb, cond-true, cond-false}
use Rattle.std.proofs.lemmas.List.{get_or_append_left, get_or_push, get_or-take, get_or-set_other, get_or_past, length_push, length-set}
use Rattle.std.proofs.lemmas.List.Sums.{count_by-le-length}
use Rattle.plain_types.specs.declared.sequence.NameLit.{NameLit}
use Rattle.plain_types.specs.Names.{same_name, has_name}
use Rattle.plain_types.proofs.NameLemmas.{same_name-true}
use Rattle.sat_core.specs.declared.trail.Assigned.{Assigned}
use Rattle.sat_core.specs.declared.trail.Slot.{Slot}
use Rattle.sat_core.specs.declared.analysis.Turn.{Turn}
use Rattle.sat_core.specs.Clause.{PropClause}
use Rattle.sat_core.specs.Trail.{IsTrail, Cuts, entry_at, slot_at, slot_of, place_of, has_place, is_false, is_false_within, cut_slot}
use Rattle.sat_core.specs.State.{IsSound, IsImplied, SameLiterals, clause_at}
use Rattle.sat_core.specs.Conflict.{IsTurn}
use Rattle.sat_core.specs.Search.{is_decision, remaining}
use Rattle.sat_core.proofs.AboutTrails.TrailLemmas.{slot_within, cut_length}
use Rattle.sat_core.proofs.AboutConflicts.ResolveLemmas.{false_has_place}
use Rattle.sat_core.proofs.AboutTrails.MeasureLemmas.{remaining_push, remaining_turn}

-- the trail is no longer than there are names
pub trail_length : (entries : List Assigned) (slots : List Slot) → IsTrail entries slots → length entries ≤ length slots
trail_length entries slots t = let h = count_by-le-length has_place slots in omega (arith, h, t.counted)

-- ---- one more clause

pub implied_grown :
    (clauses : List PropClause) (slots : List Slot) (c : PropClause) (i reason : ℕ) (l : NameLit)
    → IsImplied clauses slots i l reason → IsImplied (clauses ++ c ∷ []) slots i l reason
implied_grown clauses slots c i reason l implied =
    let same : clause_at (clauses ++ c ∷ []) reason ≡ clause_at clauses reason = get_or_append_left clauses (c ∷ []) [] reason implied.within in
    record {
      within = let w = implied.within in omega (arith, w, length_push clauses c);
      member = ap (has_name l) same ∙ implied.member;
      others = λ k h o. implied.others k (sym (ap (has_name k) same) ∙ h) o;
    }

pub grown :
    (clauses : List PropClause) (entries : List Assigned) (slots : List Slot) (c : PropClause)
    → IsSound clauses entries slots → ((l : NameLit) → IsTrue (has_name l c) → l.name < length slots)
    → IsSound (clauses ++ c ∷ []) entries slots
grown clauses entries slots c sound named = record {
  trail = sound.trail;
  implied = λ i reason h is. implied_grown clauses slots c i reason (entry_at entries i).literal (sound.implied i reason h is);
  named = λ n l h. names n l h (cases_lt n (length clauses));
}
  where
    nothing : (l : NameLit) → IsTrue (has_name l []) → l.name < length slots
    nothing l h = cc

    past : (n : ℕ) (l : NameLit) → IsTrue (has_name l (clause_at (clauses ++ c ∷ []) n)) → (length clauses ≡ n) ⊎ (length clauses < n) → l.name < length slots
    past n l h (inl e) = named l (sym (ap (has_name l) (get_or_push clauses c [] n e)) ∙ h)
    past n l h (inr e) = nothing l (sym (ap (has_name l) (get_or_past (clauses ++ c ∷ []) n [] (omega (arith, e, length_push clauses c)))) ∙ h)

    names : (n : ℕ) (l : NameLit) → IsTrue (has_name l (clause_at (clauses ++ c ∷ []) n)) → (n < length clauses) ⊎ (length clauses ≤ n) → l.name < length slots
    names n l h (inl e) = sound.named n l (sym (ap (has_name l) (get_or_append_left clauses (c ∷ []) [] n e)) ∙ h)
    names n l h (inr e) = past n l h (⊎_elim (λ (x : length clauses < n). inr x) (λ (x : n ≤ length clauses). inl (omega (arith, x, e))) (cases_lt (length clauses) n))

-- ---- one more entry

-- a false literal stays so where another name gets a value
pub false_kept :
    (slots : List Slot) (v : ℕ) (s : Slot) (count : ℕ) (k : NameLit)
    → (slot_at slots v).place ≡ 0 → IsTrue (is_false_within slots count k) → IsTrue (is_false_within (set slots v s) count k)
false_kept slots v s count k free h =
    let parts = and_parts (is_false slots k) (nat_le (place_of slots k) count) h in
    let used = false_has_place slots k parts.0 in
    let other : slot_at (set slots v s) k.name ≡ slot_at slots k.name =
    get_or-set_other slots v k.name s _ (λ e. let z : (slot_at slots k.name).place ≡ 0 = ap (λ (n : ℕ). (slot_at slots n).place) e ∙ free in omega (arith, z, used)) in
    ap (λ (x : Slot). (has_place x && not (beq x.positive k.positive)) && nat_le x.place count) other ∙ h

pub pushed_sound :
    (clauses : List PropClause) (entries entries' : List Assigned) (slots slots' : List Slot) (e : Assigned)
    → IsSound clauses entries slots → place_of slots e.literal ≡ 0
    → ((reason : ℕ) → e.reason ≡ Some reason → IsImplied clauses slots (length entries) e.literal reason)
    → IsTrail entries' slots' → entries' ≡ entries ++ e ∷ [] → slots' ≡ set slots e.literal.name (slot_of (length entries) e)
    → IsSound clauses entries' slots'
pushed_sound clauses entries entries' slots slots' e sound free because t more written = record {
  trail = t;
  implied = λ i reason h is. carried i reason (implied i reason h is (cases_lt i (length entries)));
  named = λ n l h. let w = sound.named n l h in omega (arith, w, same);
}
  where
    same : length slots' ≡ length slots
    same = ap length written ∙ length-set slots e.literal.name _

    carried : (i reason : ℕ) → IsImplied clauses slots i (entry_at entries' i).literal reason → IsImplied clauses slots' i (entry_at entries' i).literal reason
    carried i reason was = record {
      within = was.within;
      member = was.member;
      others = λ k h o. subst (λ (ss : List Slot). IsTrue (is_false_within ss i k)) (sym written)
          (false_kept slots e.literal.name _ i k free (was.others k h o));
    }

    implied :
        (i reason : ℕ) → i < length entries' → (entry_at entries' i).reason ≡ Some reason → (i < length entries) ⊎ (length entries ≤ i)
        → IsImplied clauses slots i (entry_at entries' i).literal reason
    implied i reason h is (inl w) =
        let at : entry_at entries' i ≡ entry_at entries i = ap (λ (es : List Assigned). entry_at es i) more ∙ get_or_append_left entries (e ∷ []) _ i w in
        subst (λ (x : Assigned). IsImplied clauses slots i x.literal reason) (sym at)
        (sound.implied i reason w (sym (ap (λ (x : Assigned). x.reason) at) ∙ is))
    implied i reason h is (inr w) =
        let count : length entries' ≡ length entries + 1 = ap length more ∙ length_push entries e in
        let n : length entries ≡ i = omega (arith, count, h, w) in
        let at : entry_at entries' i ≡ e = ap (λ (es : List Assigned). entry_at es i) more ∙ get_or_push entries e _ i n in
        subst (λ (x : Assigned). IsImplied clauses slots i x.literal reason) (sym at)
        (subst (λ (m : ℕ). IsImplied clauses slots m e.literal reason) n (because reason (sym (ap (λ (x : Assigned). x.reason) at) ∙ is)))

pub pushed_remaining :
    (entries entries' : List Assigned) (slots slots' : List Slot) (e : Assigned)
    → IsTrail entries' slots' → entries' ≡ entries ++ e ∷ [] → length slots' ≡ length slots
    → remaining (length slots) entries' < remaining (length slots) entries
pushed_remaining entries entries' slots slots' e t more same =
    let low = trail_length entries' slots' t in
    let count : length entries' ≡ length entries + 1 = ap length more ∙ length_push entries e in
    let r = remaining_push (length slots) entries e (omega (arith, low, count, same)) in
    let is = ap (remaining (length slots)) more in
    omega (arith, r, is)

-- ---- entries are taken back

pub cut_false :
    (slots slots' : List Slot) (cut count : ℕ) (k : NameLit)
    → ((v : ℕ) → slot_at slots' v ≡ cut_slot cut (slot_at slots v)) → count ≤ cut
    → IsTrue (is_false_within slots count k) → IsTrue (is_false_within slots' count k)
cut_false slots slots' cut count k left low h =
    let parts = and_parts (is_false slots k) (nat_le (place_of slots k) count) h in
    let within = leb-true (place_of slots k) count parts.1 in
    let same : slot_at slots' k.name ≡ slot_at slots k.name =
    left k.name ∙ ap (λ (p : ℕ). record { place = p; positive = (slot_at slots k.name).positive })
    (cond-true (nat_le (place_of slots k) cut) (place_of slots k) 0 (le-leb (place_of slots k) cut (omega (arith, within, low)))) in
    ap (λ (x : Slot). (has_place x && not (beq x.positive k.positive)) && nat_le x.place count) same ∙ h

pub cut_sound :
    (clauses : List PropClause) (entries entries' : List Assigned) (slots slots' : List Slot) (cut : ℕ)
    → IsSound clauses entries slots → cut ≤ length entries → Cuts cut entries slots entries' slots' → IsSound clauses entries' slots'
cut_sound clauses entries entries' slots slots' cut sound within cuts = record {
  trail = cuts.trail;
  implied = λ i reason h is.
      let count = cut_length cut entries entries' slots slots' within cuts in
      let low : i < cut = omega (arith, h, count) in
      let at : entry_at entries' i ≡ entry_at entries i = ap (λ (es : List Assigned). entry_at es i) cuts.entries_left ∙ get_or-take cut entries i _ low in
      let was = sound.implied i reason (omega (arith, low, within)) (sym (ap (λ (x : Assigned). x.reason) at) ∙ is) in
      record {
        within = was.within;
        member = ap (λ (x : Assigned). has_name x.literal (clause_at clauses reason)) at ∙ was.member;
        others = λ k m o. cut_false slots slots' cut i k cuts.slots_left (omega arith)
            (was.others k m (ap (λ (x : Assigned). same_name x.literal k) (sym at) ∙ o));
      };
  named = λ n l h. let w = sound.named n l h in omega (arith, w, cuts.same_length);
}

-- ---- a decision is turned

-- each name of the clause has a slot
pub turn_named :
    (entries : List Assigned) (slots : List Slot) (clause : PropClause) (turn : Turn)
    → IsTurn entries slots clause turn → (l : NameLit) → IsTrue (has_name l clause) → l.name < length slots
turn_named entries slots clause turn is l h =
    slot_within slots l.name
    (⊎_elim
    (λ (e : same_name turn.literal l ≡ true).
    let q : place_of slots turn.literal ≡ place_of slots l = ap (place_of slots) (same_name-true turn.literal l e) in
    let p = is.later in omega (arith, p, q))
    (λ (e : same_name turn.literal l ≡ false).
    false_has_place slots l (and_parts (is_false slots l) (nat_le (place_of slots l) turn.cut) (is.others l h e)).0)
    (cases_Bool (same_name turn.literal l)))

-- the turned literal has no value once the decision is taken back
pub turn_free :
    (entries entries' : List Assigned) (slots slots' : List Slot) (clause : PropClause) (turn : Turn)
    → IsTurn entries slots clause turn → Cuts turn.cut entries slots entries' slots' → place_of slots' turn.literal ≡ 0
turn_free entries entries' slots slots' clause turn is cuts =
    ap (λ (s : Slot). s.place) (cuts.slots_left turn.literal.name)
    ∙ cond-false (nat_le (place_of slots turn.literal) turn.cut) _ 0
    (lt-leb (place_of slots turn.literal) turn.cut is.later)

-- and the clause implies it
pub turn_implied :
    (clauses : List PropClause) (entries entries' : List Assigned) (slots slots' : List Slot) (clause : PropClause) (turn : Turn) (n : ℕ)
    → IsTurn entries slots clause turn → Cuts turn.cut entries slots entries' slots'
    → n < length clauses → SameLiterals clause (clause_at clauses n)
    → IsImplied clauses slots' (length entries') turn.literal n
turn_implied clauses entries entries' slots slots' clause turn n is cuts within same = record {
  within = within;
  member = sym (same turn.literal) ∙ is.member;
  others = λ k h o.
      subst (λ (m : ℕ). IsTrue (is_false_within slots' m k)) (sym (cut_length turn.cut entries entries' slots slots' (let w = is.within in omega (arith, w)) cuts))
      (cut_false slots slots' turn.cut turn.cut k cuts.slots_left (omega arith) (is.others k (same k ∙ h) o));
}

pub turn_remaining :
    (entries entries' entries'' : List Assigned) (slots slots' : List Slot) (clause : PropClause) (turn : Turn) (e : Assigned)
    → IsTrail entries slots → IsTurn entries slots clause turn → Cuts turn.cut entries slots entries' slots'
    → entries'' ≡ entries' ++ e ∷ [] → is_decision e ≡ false
    → remaining (length slots) entries'' < remaining (length slots) entries
turn_remaining entries entries' entries'' slots slots' clause turn e t is cuts more implied =
    let r = remaining_turn (length slots) turn.cut entries e is.within (trail_length entries slots t) decision implied in
    let same : entries'' ≡ take turn.cut entries ++ e ∷ [] = more ∙ ap (λ (es : List Assigned). es ++ e ∷ []) cuts.entries_left in
    let q = ap (remaining (length slots)) same in
    omega (arith, r, q)
  where
    decision : is_decision (entry_at entries turn.cut) ≡ true
    decision = ap (λ (o : Option ℕ). is_none o) is.decision
