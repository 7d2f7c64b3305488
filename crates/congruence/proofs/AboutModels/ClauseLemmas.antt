-- The truth of clauses, by the values of their names.
use mathlib.Core.Bool.{beq}
use Rattle.std.proofs.Common.{◌≡◌, ℕ, ◌<◌, Bool, true, false, ◌&&◌, ◌||◌, List, [], ◌∷◌, nat_lt, refl, ap, ap₂, ◌∙◌}
use Rattle.std.proofs.lemmas.Bool.{and_parts, and_from}
use Rattle.std.specs.List.{list_all}
use Rattle.list_lemmas.proofs.Numbers.{less-says}
use Rattle.sat_core.specs.Clause.{PropClause, Valuation, is_below, names_below, clause_true, clauses_true}
use Rattle.congruence.specs.Models.{conflict_clause}

-- ---- values that agree

literals-agree :
    (v w : Valuation) (bound : ℕ) → ((name : ℕ) → name < bound → v name ≡ w name)
    → (ls : PropClause) → list_all (is_below bound) ls ≡ true → clause_true v ls ≡ clause_true w ls
literals-agree v w bound agree [] below = refl
literals-agree v w bound agree (l ∷ ls) below =
    let parts = and_parts (is_below bound l) (list_all (is_below bound) ls) below in
    ap₂ (λ (b c : Bool). b || c) (ap (λ b. beq b l.positive) (agree l.name (less-says l.name bound parts.0)))
    (literals-agree v w bound agree ls parts.1)

pub clauses-agree :
    (v w : Valuation) (bound : ℕ) → ((name : ℕ) → name < bound → v name ≡ w name)
    → (cs : List PropClause) → names_below bound cs ≡ true → clauses_true v cs ≡ clauses_true w cs
clauses-agree v w bound agree [] below = refl
clauses-agree v w bound agree (c ∷ cs) below =
    let parts = and_parts (list_all (is_below bound) c) (names_below bound cs) below in
    ap₂ (λ (b d : Bool). b && d) (literals-agree v w bound agree c parts.0) (clauses-agree v w bound agree cs parts.1)

-- ---- not all of these names, or this one

pub conflict-below :
    (bound : ℕ) (names : List ℕ) (name : ℕ) → list_all (λ n. nat_lt n bound) names ≡ true → nat_lt name bound ≡ true
    → list_all (is_below bound) (conflict_clause names name) ≡ true
conflict-below bound [] name below here = and_from (nat_lt name bound) true here refl
conflict-below bound (n ∷ names) name below here =
    let parts = and_parts (nat_lt n bound) (list_all (λ m. nat_lt m bound) names) below in
    and_from (nat_lt n bound) (list_all (is_below bound) (conflict_clause names name)) parts.0 (conflict-below bound names name parts.1 here)

pub conflict-broken :
    (v : Valuation) (names : List ℕ) (name : ℕ) → list_all v names ≡ true → v name ≡ false → clause_true v (conflict_clause names name) ≡ false
conflict-broken v [] name all none = ap (λ b. beq b true || false) none
conflict-broken v (n ∷ names) name all none =
    let parts = and_parts (v n) (list_all v names) all in
    ap (λ b. beq b false || clause_true v (conflict_clause names name)) parts.0 ∙ conflict-broken v names name parts.1 none

pub conflict-valid :
    (v : Valuation) (names : List ℕ) (name : ℕ) → (list_all v names ≡ true → v name ≡ true) → clause_true v (conflict_clause names name) ≡ true
conflict-valid v [] name entails = ap (λ b. beq b true || false) (entails refl)
conflict-valid v (n ∷ names) name entails =
    by (v n) refl (λ (e : v n ≡ true). conflict-valid v names name (λ all. entails (and_from (v n) (list_all v names) e all)))
  where
    by :
        (b : Bool) → v n ≡ b → (v n ≡ true → clause_true v (conflict_clause names name) ≡ true)
        → (beq (v n) false || clause_true v (conflict_clause names name)) ≡ true
    by false e rest = ap (λ b. beq b false || clause_true v (conflict_clause names name)) e
    by true e rest = ap (λ b. beq b false || clause_true v (conflict_clause names name)) e ∙ rest e
