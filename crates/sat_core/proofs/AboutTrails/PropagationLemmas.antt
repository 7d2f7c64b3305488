-- Steps of propagation.
use Rattle.std.proofs.Common.{◌≡◌, ℕ, zero, suc, ◌+◌, ◌<◌, ◌≤◌, Bool, true, false, not, ◌&&◌, List, [], ◌∷◌, ◌++◌, length, get_or, set, take, Some, refl, ap, sym, ◌∙◌, subst, arith, ⊎_elim}
use mathlib.Core.Bool.{beq}
use Rattle.std.specs.Prelude.{IsTrue, nat_le}
use Rattle.std.proofs.lemmas.Bool.{cases_Bool, cases_lt, or_cases, or_left, or_right, and_from, and_cases, not-false, lt-ltb, le-leb, both_ways}
use Rattle.std.proofs.lemmas.List.{length-set}
use Rattle.std.proofs.Math.Bool.{and-true}
use Rattle.std.proofs.lemmas.Option.{same_Some}
use Rattle.plain_types.specs.declared.sequence.NameLit.{NameLit}
use Rattle.plain_types.specs.Names.{same_name, has_name}
use Rattle.plain_types.proofs.NameLemmas.{same_name-true}
use Rattle.sat_core.specs.declared.trail.Assigned.{Assigned}
use Rattle.sat_core.specs.declared.trail.Slot.{Slot}
use Rattle.sat_core.specs.Clause.{PropClause}
use Rattle.sat_core.specs.Trail.{IsTrail, slot_at, slot_of, place_of, has_place, is_true, is_false}
use Rattle.sat_core.specs.State.{IsSound, IsImplied, AreFalse, clause_at}
use Rattle.sat_core.specs.Search.{OthersFalse, Propagates, remaining}
use Rattle.sat_core.proofs.AboutConflicts.AnalysisLemmas.{has_name_more}
use Rattle.sat_core.proofs.AboutAnswers.SoundLemmas.{pushed_sound, pushed_remaining}

-- the literals looked at so far
pub others_more :
    (slots : List Slot) (xs : PropClause) (i : ℕ) (other x : NameLit)
    → i < length xs → x ≡ get_or xs i x → OthersFalse slots (take i xs) other
    → (not (same_name other x) && not (is_false slots x)) ≡ false → OthersFalse slots (take (i + 1) xs) other
others_more slots xs i other x h e before closed k there o =
    ⊎_elim (λ (f : has_name k (take i xs) ≡ true). before k f o)
    (λ (f : same_name k x ≡ true).
    let kx = same_name-true k x f in
    ⊎_elim
    (λ (g : not (same_name other x) ≡ false). absurd (both_ways (same_name other k) o (ap (same_name other) kx ∙ not-false (same_name other x) g)))
    (λ (g : not (is_false slots x) ≡ false). ap (is_false slots) kx ∙ not-false (is_false slots x) g)
    (and_cases (not (same_name other x)) (not (is_false slots x)) closed))
    (or_cases (has_name k (take i xs)) (same_name k x) (sym (has_name_more xs i x k h e) ∙ there))

-- one that is left out, or a false one
pub others_met :
    (slots : List Slot) (xs : PropClause) (i : ℕ) (other x : NameLit)
    → i < length xs → x ≡ get_or xs i x → OthersFalse slots (take i xs) other
    → same_name other x ≡ true → OthersFalse slots (take (i + 1) xs) other
others_met slots xs i other x h e before same =
    others_more slots xs i other x h e before (ap (λ (b : Bool). not b && not (is_false slots x)) same)

pub others_wrong :
    (slots : List Slot) (xs : PropClause) (i : ℕ) (other x : NameLit)
    → i < length xs → x ≡ get_or xs i x → OthersFalse slots (take i xs) other
    → is_false slots x ≡ true → OthersFalse slots (take (i + 1) xs) other
others_wrong slots xs i other x h e before wrong = others_more slots xs i other x h e before (neither (not (same_name other x)) (is_false slots x) wrong)
  where
    neither : (p b : Bool) → b ≡ true → (p && not b) ≡ false
    neither true b g = ap not g
    neither false b g = refl

-- a literal stands among those looked at so far
pub met_now :
    (xs : PropClause) (i : ℕ) (l x : NameLit) → i < length xs → x ≡ get_or xs i x → same_name l x ≡ true → IsTrue (has_name l (take (i + 1) xs))
met_now xs i l x h e same = has_name_more xs i x l h e ∙ or_right (has_name l (take i xs)) (same_name l x) same

pub met_before :
    (xs : PropClause) (i : ℕ) (l x : NameLit) → i < length xs → x ≡ get_or xs i x → IsTrue (has_name l (take i xs)) → IsTrue (has_name l (take (i + 1) xs))
met_before xs i l x h e before = has_name_more xs i x l h e ∙ or_left (has_name l (take i xs)) (same_name l x) before

-- all literals are false
pub all_false :
    (slots : List Slot) (c : PropClause) (l : NameLit) → OthersFalse slots c l → IsTrue (is_false slots l) → AreFalse slots c
all_false slots c l others wrong k h =
    ⊎_elim (λ (e : same_name l k ≡ true). ap (is_false slots) (sym (same_name-true l k e)) ∙ wrong)
    (λ (e : same_name l k ≡ false). others k h e) (cases_Bool (same_name l k))

-- a literal that is neither true nor false has no value
pub no_value : (slots : List Slot) (l : NameLit) → is_true slots l ≡ false → is_false slots l ≡ false → place_of slots l ≡ 0
no_value slots l t f =
    ⊎_elim
    (λ (h : 0 < place_of slots l). absurd (neither (has_place (slot_at slots l.name)) (beq (slot_at slots l.name).positive l.positive) (lt-ltb 0 (place_of slots l) h) t f))
    (λ (h : place_of slots l ≤ 0). omega (arith, h)) (cases_lt 0 (place_of slots l))
  where
    neither : (p b : Bool) → p ≡ true → (p && b) ≡ false → (p && not b) ≡ false → ⊥
    neither p true h e f = both_ways p (sym (and-true p) ∙ e) h
    neither p false h e f = both_ways p (sym (and-true p) ∙ f) h

-- ---- an implied literal is made true

-- a literal without a value, the only one of the clause that isn't false
pub record IsUnit (slots : List Slot) (c : PropClause) (l : NameLit) : Type 0 where
  pub member : IsTrue (has_name l c)
  pub free : place_of slots l ≡ 0
  pub others : OthersFalse slots c l

pub unit_implied :
    (clauses : List PropClause) (entries : List Assigned) (slots : List Slot) (n : ℕ) (l : NameLit)
    → IsTrail entries slots → n < length clauses → IsUnit slots (clause_at clauses n) l → IsImplied clauses slots (length entries) l n
unit_implied clauses entries slots n l t within unit = record {
  within = within;
  member = unit.member;
  others = λ k h o.
      let wrong = unit.others k h o in
      and_from (is_false slots k) (nat_le (place_of slots k) (length entries)) wrong (low k (place_of slots k) refl);
}
  where
    low : (k : NameLit) (p : ℕ) → place_of slots k ≡ p → nat_le (place_of slots k) (length entries) ≡ true
    low k zero e = le-leb (place_of slots k) (length entries) (omega (arith, e))
    low k (suc i) e = let w = t.known k.name i (e ∙ omega arith) in le-leb (place_of slots k) (length entries) (omega (arith, e, w.0))

pub propagates_none :
    (clauses : List PropClause) (entries : List Assigned) (slots : List Slot) → IsSound clauses entries slots → Propagates clauses entries slots entries slots
propagates_none clauses entries slots sound = record { sound = sound; names = refl; no_more = omega arith }

pub propagates_then :
    (clauses : List PropClause) (entries entries' entries'' : List Assigned) (slots slots' slots'' : List Slot)
    → Propagates clauses entries slots entries' slots' → Propagates clauses entries' slots' entries'' slots''
    → Propagates clauses entries slots entries'' slots''
propagates_then clauses entries entries' entries'' slots slots' slots'' first second = record {
  sound = second.sound;
  names = second.names ∙ first.names;
  no_more =
      let a = first.no_more in
      let b = second.no_more in
      let c : remaining (length slots') entries'' ≡ remaining (length slots) entries'' = ap (λ (n : ℕ). remaining n entries'') first.names in
      let d : remaining (length slots') entries' ≡ remaining (length slots) entries' = ap (λ (n : ℕ). remaining n entries') first.names in
      omega (arith, a, b, c, d);
}

pub propagates_one :
    (clauses : List PropClause) (entries entries' : List Assigned) (slots slots' : List Slot) (n : ℕ) (l : NameLit)
    → IsSound clauses entries slots → n < length clauses → IsUnit slots (clause_at clauses n) l
    → IsTrail entries' slots' → entries' ≡ entries ++ record { literal = l; reason = Some n } ∷ []
    → slots' ≡ set slots l.name (slot_of (length entries) (record { literal = l; reason = Some n }))
    → Propagates clauses entries slots entries' slots'
propagates_one clauses entries entries' slots slots' n l sound within unit t more written =
    let same : length slots' ≡ length slots = ap length written ∙ length-set slots l.name _ in
    record {
      sound = pushed_sound clauses entries entries' slots slots' (record { literal = l; reason = Some n }) sound unit.free
          (λ reason is. subst (λ (m : ℕ). IsImplied clauses slots (length entries) l m) (same_Some n reason is)
          (unit_implied clauses entries slots n l sound.trail within unit)) t more written;
      names = same;
      no_more = let r = pushed_remaining entries entries' slots slots' (record { literal = l; reason = Some n }) t more same in omega (arith, r);
    }
