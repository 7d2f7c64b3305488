-- Steps of the analysis of a conflict.
use Rattle.std.proofs.Common.{◌≡◌, ℕ, zero, suc, ◌+◌, ◌<◌, ◌≤◌, Bool, true, false, not, ◌&&◌, ◌||◌, List, [], ◌∷◌, length, get_or, take, Option, refl, ap, sym, ◌∙◌, arith, ⊎_elim}
use mathlib.Core.Bool.{beq}
use Rattle.std.specs.Prelude.{IsTrue}
use Rattle.std.proofs.lemmas.Bool.{or_cases, or_left, or_right, and_parts, false≢true}
use Rattle.std.proofs.lemmas.List.{get_or_default}
use Rattle.std.proofs.lemmas.List.Folds.{list_any_at, list_any_more}
use Rattle.std.proofs.Math.Bool.{or-false}
use Rattle.plain_types.specs.declared.sequence.NameLit.{NameLit}
use Rattle.plain_types.specs.Names.{same_name, has_name}
use Rattle.plain_types.proofs.NameLemmas.{same_name-refl, same_name-true}
use Rattle.sat_core.specs.declared.trail.Slot.{Slot}
use Rattle.sat_core.specs.Clause.{PropClause}
use Rattle.sat_core.specs.Trail.{slot_at, place_of, has_place, is_false}
use Rattle.sat_core.specs.State.{AreFalse, SameLiterals}
use Rattle.sat_core.specs.Conflict.{is_other, OthersAreFalse, AreWithin}

-- what code reads past the end of a list
abbrev pub no_literal : NameLit
no_literal = record { positive = false; name = 0 }

-- a literal that is read from a list stands in it
pub has_name_read : (xs : PropClause) (i : ℕ) (x : NameLit) → i < length xs → x ≡ get_or xs i x → IsTrue (has_name x xs)
has_name_read xs i x h e = list_any_at (same_name x) xs i x h (ap (same_name x) (sym e) ∙ same_name-refl x)

pub has_name_at : (xs : PropClause) (i : ℕ) → i < length xs → IsTrue (has_name (get_or xs i no_literal) xs)
has_name_at xs i h = has_name_read xs i _ h (get_or_default xs i no_literal _ h)

-- so its name has a slot
pub named_at : (names : ℕ) (xs : PropClause) (i : ℕ) → AreWithin names xs → i < length xs → (get_or xs i no_literal).name < names
named_at names xs i within h = within _ (has_name_at xs i h)

pub has_name_more :
    (xs : PropClause) (i : ℕ) (x k : NameLit) → i < length xs → x ≡ get_or xs i x
    → has_name k (take (i + 1) xs) ≡ (has_name k (take i xs) || same_name k x)
has_name_more xs i x k h e = list_any_more (same_name k) xs i x h ∙ ap (λ (y : NameLit). has_name k (take i xs) || same_name k y) (sym e)

pub has_name-take : (xs : PropClause) (n : ℕ) (k : NameLit) → IsTrue (has_name k (take n xs)) → IsTrue (has_name k xs)
has_name-take xs zero k h = cc
has_name-take [] (suc n) k h = h
has_name-take (x ∷ xs) (suc n) k h =
    ⊎_elim (λ (e : same_name k x ≡ true). or_left (same_name k x) (has_name k xs) e)
    (λ (e : has_name k (take n xs) ≡ true). or_right (same_name k x) (has_name k xs) (has_name-take xs n k e))
    (or_cases (same_name k x) (has_name k (take n xs)) h)

-- two false literals of one name are one
pub false_of_one_name : (slots : List Slot) (l k : NameLit) → IsTrue (is_false slots l) → IsTrue (is_false slots k) → k.name ≡ l.name → k ≡ l
false_of_one_name slots l k h g e = same k.positive l.positive (slot_at slots k.name).positive k.name l.name (sign k g) (sign' h) e
  where
    sign : (k : NameLit) → IsTrue (is_false slots k) → not (beq (slot_at slots k.name).positive k.positive) ≡ true
    sign k g = (and_parts (has_place (slot_at slots k.name)) (not (beq (slot_at slots k.name).positive k.positive)) g).1

    sign' : IsTrue (is_false slots l) → not (beq (slot_at slots k.name).positive l.positive) ≡ true
    sign' h = ap (λ (v : ℕ). not (beq (slot_at slots v).positive l.positive)) e ∙ sign l h

    same : (p q s : Bool) (a b : ℕ) → not (beq s p) ≡ true → not (beq s q) ≡ true → a ≡ b → ◌≡◌ {A = NameLit} (record { positive = p; name = a }) (record { positive = q; name = b })
    same true true s a b h g e = ap (λ (n : ℕ). record { positive = true; name = n }) e
    same false false s a b h g e = ap (λ (n : ℕ). record { positive = false; name = n }) e
    same true false true a b h g e = cc
    same true false false a b h g e = cc
    same false true true a b h g e = cc
    same false true false a b h g e = cc

-- ---- the step of a loop

abbrev pub Adds : PropClause → Option NameLit → PropClause → PropClause → Type 0
Adds front implied old new = (k : NameLit) → has_name k new ≡ (has_name k old || (has_name k front && is_other implied k))

pub adds_none : (implied : Option NameLit) (old : PropClause) → Adds [] implied old old
adds_none implied old k = sym (or-false (has_name k old))

pub adds_one :
    (xs old new new' : PropClause) (i : ℕ) (implied : Option NameLit) (x : NameLit)
    → i < length xs → x ≡ get_or xs i x → is_other implied x ≡ true
    → Adds (take i xs) implied old new → SameLiterals new' (x ∷ new) → Adds (take (i + 1) xs) implied old new'
adds_one xs old new new' i implied x h e other adds one k =
    one k ∙ ap (λ (b : Bool). same_name k x || b) (adds k)
    ∙ joined (same_name k x) (has_name k old) (has_name k (take i xs)) (is_other implied k)
    (λ s. ap (is_other implied) (same_name-true k x s) ∙ other)
    ∙ ap (λ (b : Bool). has_name k old || (b && is_other implied k)) (sym (has_name_more xs i x k h e))
  where
    joined : (s a b o : Bool) → (s ≡ true → o ≡ true) → (s || (a || (b && o))) ≡ (a || ((b || s) && o))
    joined true true b o f = refl
    joined true false b true f = turned b
      where
        turned : (b : Bool) → true ≡ ((b || true) && true)
        turned true = refl
        turned false = refl
    joined true false b false f = absurd (false≢true (f refl))
    joined false true b o f = refl
    joined false false true o f = refl
    joined false false false o f = refl

pub adds_no :
    (xs old new : PropClause) (i : ℕ) (implied : Option NameLit) (x : NameLit)
    → i < length xs → x ≡ get_or xs i x → is_other implied x ≡ false
    → Adds (take i xs) implied old new → Adds (take (i + 1) xs) implied old new
adds_no xs old new i implied x h e other adds k =
    adds k
    ∙ joined (same_name k x) (has_name k old) (has_name k (take i xs)) (is_other implied k)
    (λ s. ap (is_other implied) (same_name-true k x s) ∙ other)
    ∙ ap (λ (b : Bool). has_name k old || (b && is_other implied k)) (sym (has_name_more xs i x k h e))
  where
    joined : (s a b o : Bool) → (s ≡ true → o ≡ false) → (a || (b && o)) ≡ (a || ((b || s) && o))
    joined s true b o f = refl
    joined true false true o f = refl
    joined true false false true f = sym (f refl)
    joined true false false false f = refl
    joined false false true o f = refl
    joined false false false o f = refl

-- the literals marked so far are false
pub adds_false :
    (slots : List Slot) (xs old new : PropClause) (i : ℕ) (implied : Option NameLit)
    → AreFalse slots old → OthersAreFalse slots xs implied → Adds (take i xs) implied old new → AreFalse slots new
adds_false slots xs old new i implied old_false others adds k h =
    ⊎_elim (λ (e : has_name k old ≡ true). old_false k e)
    (λ (e : (has_name k (take i xs) && is_other implied k) ≡ true).
    let parts = and_parts (has_name k (take i xs)) (is_other implied k) e in others k (has_name-take xs i k parts.0) parts.1)
    (or_cases (has_name k old) (has_name k (take i xs) && is_other implied k) (sym (adds k) ∙ h))

-- the highest place so far
pub highest_more :
    (slots : List Slot) (xs : PropClause) (i bound highest new : ℕ) (x : NameLit)
    → i < length xs → x ≡ get_or xs i x
    → ((k : NameLit) → IsTrue (has_name k (take i xs)) → place_of slots k < bound → place_of slots k ≤ highest)
    → highest ≤ new → (place_of slots x < bound → place_of slots x ≤ new)
    → (k : NameLit) → IsTrue (has_name k (take (i + 1) xs)) → place_of slots k < bound → place_of slots k ≤ new
highest_more slots xs i bound highest new x h e before le at k there low =
    ⊎_elim (λ (f : has_name k (take i xs) ≡ true). let p = before k f low in omega (arith, p, le))
    (λ (f : same_name k x ≡ true).
    let q : place_of slots k ≡ place_of slots x = ap (place_of slots) (same_name-true k x f) in
    let p = at (omega (arith, q, low)) in omega (arith, p, q))
    (or_cases (has_name k (take i xs)) (same_name k x) (sym (has_name_more xs i x k h e) ∙ there))

-- the literals of the front that pass a test are kept
abbrev pub Keeps : (NameLit → Bool) → PropClause → PropClause → Type 0
Keeps test front kept = (l : NameLit) → has_name l kept ≡ (has_name l front && test l)

pub keeps_one :
    (test : NameLit → Bool) (xs kept kept' : PropClause) (i : ℕ) (x : NameLit)
    → i < length xs → x ≡ get_or xs i x → test x ≡ true
    → Keeps test (take i xs) kept → SameLiterals kept' (x ∷ kept) → Keeps test (take (i + 1) xs) kept'
keeps_one test xs kept kept' i x h e passes keeps one k =
    one k ∙ ap (λ (b : Bool). same_name k x || b) (keeps k)
    ∙ joined (same_name k x) (has_name k (take i xs)) (test k) (λ s. ap test (same_name-true k x s) ∙ passes)
    ∙ ap (λ (b : Bool). b && test k) (sym (has_name_more xs i x k h e))
  where
    joined : (s b o : Bool) → (s ≡ true → o ≡ true) → (s || (b && o)) ≡ ((b || s) && o)
    joined true true true f = refl
    joined true false true f = refl
    joined true b false f = absurd (false≢true (f refl))
    joined false true o f = refl
    joined false false o f = refl

pub keeps_no :
    (test : NameLit → Bool) (xs kept : PropClause) (i : ℕ) (x : NameLit)
    → i < length xs → x ≡ get_or xs i x → test x ≡ false
    → Keeps test (take i xs) kept → Keeps test (take (i + 1) xs) kept
keeps_no test xs kept i x h e fails keeps k =
    keeps k
    ∙ joined (same_name k x) (has_name k (take i xs)) (test k) (λ s. ap test (same_name-true k x s) ∙ fails)
    ∙ ap (λ (b : Bool). b && test k) (sym (has_name_more xs i x k h e))
  where
    joined : (s b o : Bool) → (s ≡ true → o ≡ false) → (b && o) ≡ ((b || s) && o)
    joined true true o f = refl
    joined true false true f = sym (f refl)
    joined true false false f = refl
    joined false true o f = refl
    joined false false o f = refl
