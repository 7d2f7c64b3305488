-- One step back along the trail.
use Rattle.std.proofs.Common.{◌≡◌, ℕ, zero, suc, ◌+◌, ◌-◌, ◌<◌, ◌≤◌, Bool, true, false, not, ◌&&◌, ◌||◌, List, [], ◌∷◌, ◌++◌, length, get_or, Option, Some, None, refl, ap, sym, ◌∙◌, subst, arith, ⊎_elim}
use mathlib.Core.Bool.{beq}
use Rattle.std.specs.Prelude.{IsTrue, nat_le, nat_lt, option_and_then}
use Rattle.std.proofs.lemmas.Bool.{cases_Bool, cases_eq, cases_lt, or_cases, and_parts, and_from, le-leb, lt-leb, leb-true, ltb-true, both_ways, not-true}
use Rattle.std.proofs.lemmas.List.{get_or_read}
use Rattle.std.proofs.lemmas.Option.{slice_get-get_or, option_and_then_some, same_Some}
use Rattle.std.proofs.Math.Bool.{and-true, or-false}
use Rattle.plain_types.specs.declared.sequence.NameLit.{NameLit}
use Rattle.plain_types.specs.Names.{same_name, has_name, opposite, can_resolve, resolvent}
use Rattle.plain_types.proofs.NameLemmas.{same_name-refl, same_name-true, opposite-opposite, has_name-resolvent}
use Rattle.sat_core.specs.declared.answer.Link.{Link}
use Rattle.sat_core.specs.declared.trail.Assigned.{Assigned}
use Rattle.sat_core.specs.declared.trail.Slot.{Slot}
use Rattle.sat_core.specs.declared.analysis.Turn.{Turn}
use Rattle.sat_core.specs.Clause.{PropClause}
use Rattle.sat_core.specs.Resolution.{link_clause, links_clause}
use Rattle.sat_core.specs.Trail.{IsTrail, entry_at, slot_at, place_of, has_place, is_false}
use Rattle.sat_core.specs.State.{IsSound, IsImplied, AreFalse, AreMarks, SameLiterals, clause_at, mentions}
use Rattle.sat_core.specs.Conflict.{is_other, OthersAreFalse, AddsOthers, IsResolving, TurnsAt, IsTurnOf, IsAnalysis}
use Rattle.sat_core.proofs.AboutConflicts.MarkLemmas.{same_tests, mentions_of, literal_of_name}
use Rattle.sat_core.proofs.AboutTrails.TrailLemmas.{slot_within}
use Rattle.sat_core.proofs.AboutConflicts.LogLemmas.{link_clause_at}
use Rattle.sat_core.proofs.AboutConflicts.AnalysisLemmas.{false_of_one_name}

-- a false literal has a place
pub false_has_place : (slots : List Slot) (l : NameLit) → IsTrue (is_false slots l) → 0 < place_of slots l
false_has_place slots l h = ltb-true 0 (place_of slots l) (and_parts (has_place (slot_at slots l.name)) _ h).0

-- what an entry makes false
pub false_at_entry :
    (entries : List Assigned) (slots : List Slot) (i : ℕ) → IsTrail entries slots → i < length entries
    → IsTrue (is_false slots (opposite (entry_at entries i).literal))
false_at_entry entries slots i t h =
    ap (λ (s : Slot). has_place s && not (beq s.positive (not (entry_at entries i).literal.positive))) (t.placed i h)
    ∙ and_from (nat_lt 0 (i + 1)) (not (beq (entry_at entries i).literal.positive (not (entry_at entries i).literal.positive)))
    (has i) (sign (entry_at entries i).literal.positive)
  where
    has : (i : ℕ) → nat_lt 0 (i + 1) ≡ true
    has i = le-leb 1 (i + 1) (omega arith)

    sign : (b : Bool) → not (beq b (not b)) ≡ true
    sign true = refl
    sign false = refl

-- the false literal that stands at an entry is its opposite
pub false_literal_at :
    (entries : List Assigned) (slots : List Slot) (i : ℕ) (l : NameLit) → IsTrail entries slots → i < length entries
    → IsTrue (is_false slots l) → place_of slots l ≡ i + 1 → l ≡ opposite (entry_at entries i).literal
false_literal_at entries slots i l t h wrong at =
    false_of_one_name slots (opposite (entry_at entries i).literal) l (false_at_entry entries slots i t h) wrong
    (sym (ap (λ (x : NameLit). x.name) (t.known l.name i at).1))

-- the place of what an entry makes false
pub place_at_entry :
    (entries : List Assigned) (slots : List Slot) (i : ℕ) → IsTrail entries slots → i < length entries
    → place_of slots (opposite (entry_at entries i).literal) ≡ i + 1
place_at_entry entries slots i t h = ap (λ (s : Slot). s.place) (t.placed i h)

-- a marked name of false literals is that of the opposite
pub marked_at :
    (entries : List Assigned) (slots : List Slot) (i : ℕ) (marked : List Bool) (literals : PropClause)
    → IsTrail entries slots → i < length entries → AreMarks marked literals → AreFalse slots literals
    → IsTrue (get_or marked (entry_at entries i).literal.name false) → IsTrue (has_name (opposite (entry_at entries i).literal) literals)
marked_at entries slots i marked literals t h marks wrong is =
    let found = literal_of_name (entry_at entries i).literal.name literals (sym (marks (entry_at entries i).literal.name) ∙ is) in
    let same : found.0 ≡ opposite (entry_at entries i).literal =
    false_of_one_name slots (opposite (entry_at entries i).literal) found.0 (false_at_entry entries slots i t h) (wrong found.0 found.2) found.1 in
    ap (λ (x : NameLit). has_name x literals) (sym same) ∙ found.2

-- ---- an entry that isn't marked

pub passed :
    (clauses : List PropClause) (entries : List Assigned) (slots : List Slot) (start i bound : ℕ) (links : List Link) (marked : List Bool) (literals : PropClause)
    → IsTrail entries slots → bound ≡ i + 1 → bound ≤ length entries
    → IsResolving clauses slots start links marked literals bound
    → get_or marked (entry_at entries i).literal.name false ≡ false
    → IsResolving clauses slots start links marked literals i
passed clauses entries slots start i bound links marked literals t step within r absent = record {
  marks = r.marks;
  names = r.names;
  false_literals = r.false_literals;
  reached = record {
    clause = r.reached.clause;
    lawful = r.reached.lawful;
    left = λ l. r.reached.left l ∙ same (has_name l literals) (nat_le (place_of slots l) bound) (nat_le (place_of slots l) i) (lower l) (higher l);
  };
}
  where
    same : (a b c : Bool) → (a ≡ true → b ≡ true → c ≡ true) → (c ≡ true → b ≡ true) → (a && b) ≡ (a && c)
    same false b c f g = refl
    same true true c f g = sym (f refl refl)
    same true false true f g = g refl
    same true false false f g = refl

    higher : (l : NameLit) → nat_le (place_of slots l) i ≡ true → nat_le (place_of slots l) bound ≡ true
    higher l e = let p = leb-true (place_of slots l) i e in le-leb (place_of slots l) bound (omega (arith, p, step))

    lower : (l : NameLit) → has_name l literals ≡ true → nat_le (place_of slots l) bound ≡ true → nat_le (place_of slots l) i ≡ true
    lower l there e =
        let p = leb-true (place_of slots l) bound e in
        ⊎_elim
        (λ (q : place_of slots l ≡ i + 1).
        let one_name : l.name ≡ (entry_at entries i).literal.name = sym (ap (λ (x : NameLit). x.name) (t.known l.name i q).1) in
        absurd (both_ways (get_or marked (entry_at entries i).literal.name false) absent
        (r.marks (entry_at entries i).literal.name ∙ ap (λ (v : ℕ). mentions v literals) (sym one_name) ∙ mentions_of literals l there)))
        (λ (q : place_of slots l ≡ i + 1 → ⊥). le-leb (place_of slots l) i (not_at p q))
        (cases_eq (place_of slots l) (i + 1))
      where
        not_at : place_of slots l ≤ bound → (place_of slots l ≡ i + 1 → ⊥) → place_of slots l ≤ i
        not_at p q = ⊎_elim (λ (x : i < place_of slots l). absurd (q (omega (arith, x, p, step)))) (λ (x : place_of slots l ≤ i). x) (cases_lt i (place_of slots l))

-- ---- an entry that is resolved away

pub links_clause_push :
    (known : List PropClause) (c d e : PropClause) (links : List Link) (link : Link)
    → links_clause known c links ≡ Some d → link_clause known d link ≡ Some e → links_clause known c (links ++ link ∷ []) ≡ Some e
links_clause_push known c d e [] link h k =
    let cd : c ≡ d = same_Some c d h in
    ap (λ (x : PropClause). option_and_then (λ (y : PropClause). Some y) (link_clause known x link)) cd
    ∙ ap (λ (o : Option PropClause). option_and_then (λ (y : PropClause). Some y) o) k
links_clause_push known c d e (first ∷ links) link h k =
    option_and_then_some (λ (x : PropClause). links_clause known x links) (link_clause known c first) d h
    (λ x at rest.
    ap (λ (o : Option PropClause). option_and_then (λ (x : PropClause). links_clause known x (links ++ link ∷ [])) o) at
    ∙ links_clause_push known x d e links link rest k)

pub resolved :
    (clauses : List PropClause) (entries : List Assigned) (slots : List Slot) (start i bound reason : ℕ)
    (links : List Link) (marked marked' : List Bool) (literals literals' : PropClause)
    → IsSound clauses entries slots → bound ≡ i + 1 → bound ≤ length entries
    → IsResolving clauses slots start links marked literals bound
    → IsTrue (has_name (opposite (entry_at entries i).literal) literals)
    → IsImplied clauses slots i (entry_at entries i).literal reason
    → AreMarks marked' literals' → length marked' ≡ length marked
    → AddsOthers (clause_at clauses reason) (Some (entry_at entries i).literal) literals literals'
    → IsResolving clauses slots start (links ++ record { pivot = opposite (entry_at entries i).literal; number = reason } ∷ []) marked' literals' i
resolved clauses entries slots start i bound reason links marked marked' literals literals' sound step within r there implied marks names adds = record {
  marks = marks;
  names = names ∙ r.names;
  false_literals = λ l h. ⊎_elim (λ (e : has_name l literals ≡ true). r.false_literals l e)
      (λ (e : (has_name l d && is_other (Some t) l) ≡ true).
      let parts = and_parts (has_name l d) (is_other (Some t) l) e in
      (and_parts (is_false slots l) (nat_le (place_of slots l) i) (implied.others l parts.0 (not-true (same_name t l) parts.1))).0)
      (or_cases (has_name l literals) (has_name l d && is_other (Some t) l) (sym (adds l) ∙ h));
  reached = record {
    clause = resolvent p r.reached.clause d;
    lawful = links_clause_push clauses (clause_at clauses start) r.reached.clause (resolvent p r.reached.clause d) links
        (record { pivot = p; number = reason }) r.reached.lawful
        (link_clause_at clauses r.reached.clause d (record { pivot = p; number = reason }) (slice_get-get_or clauses reason [] implied.within) can);
    left = left;
  };
}
  where
    t : NameLit
    t = (entry_at entries i).literal

    p : NameLit
    p = opposite t

    d : PropClause
    d = clause_at clauses reason

    in_trail : i < length entries
    in_trail = omega (arith, step, within)

    top : place_of slots p ≡ i + 1
    top = place_at_entry entries slots i sound.trail in_trail

    can : can_resolve p r.reached.clause d ≡ true
    can = and_from (has_name p r.reached.clause) (has_name (opposite p) d)
        (r.reached.left p ∙ and_from (has_name p literals) (nat_le (place_of slots p) bound) there (le-leb (place_of slots p) bound (omega (arith, top, step))))
        (ap (λ (x : NameLit). has_name x d) (opposite-opposite t) ∙ implied.member)

    -- below the bound but for the pivot is below the entry
    lower : (l : NameLit) → has_name l literals ≡ true → (nat_le (place_of slots l) bound && not (same_name p l)) ≡ nat_le (place_of slots l) i
    lower l h = same_tests (nat_le (place_of slots l) bound && not (same_name p l)) (nat_le (place_of slots l) i) down up
      where
        down : (nat_le (place_of slots l) bound && not (same_name p l)) ≡ true → nat_le (place_of slots l) i ≡ true
        down e =
            let parts = and_parts (nat_le (place_of slots l) bound) (not (same_name p l)) e in
            let low = leb-true (place_of slots l) bound parts.0 in
            ⊎_elim
            (λ (q : i < place_of slots l).
            let same : l ≡ p = false_literal_at entries slots i l sound.trail in_trail (r.false_literals l h) (omega (arith, low, q, step)) in
            absurd (both_ways (same_name p l) (not-true (same_name p l) parts.1) (ap (same_name p) same ∙ same_name-refl p)))
            (λ (q : place_of slots l ≤ i). le-leb (place_of slots l) i q)
            (cases_lt i (place_of slots l))

        up : nat_le (place_of slots l) i ≡ true → (nat_le (place_of slots l) bound && not (same_name p l)) ≡ true
        up e =
            let low = leb-true (place_of slots l) i e in
            and_from (nat_le (place_of slots l) bound) (not (same_name p l)) (le-leb (place_of slots l) bound (omega (arith, low, step)))
            (⊎_elim
            (λ (s : same_name p l ≡ true).
            let q : place_of slots p ≡ place_of slots l = ap (place_of slots) (same_name-true p l s) in absurd (omega (arith, q, top, low)))
            (λ (s : same_name p l ≡ false). ap not s) (cases_Bool (same_name p l)))

    -- the reason's other literals are below the entry
    reason_low : (l : NameLit) → has_name l d ≡ true → not (same_name t l) ≡ true → nat_le (place_of slots l) i ≡ true
    reason_low l h o = (and_parts (is_false slots l) (nat_le (place_of slots l) i) (implied.others l h (not-true (same_name t l) o))).1

    joined :
        (a b n h o c : Bool) → (a ≡ true → (b && n) ≡ c) → (h ≡ true → o ≡ true → c ≡ true)
        → (((a && b) && n) || (h && o)) ≡ ((a || (h && o)) && c)
    joined true b n true true c f g = ap (λ (x : Bool). x || true) (f refl) ∙ ap (λ (x : Bool). x || true) (g refl refl) ∙ sym (g refl refl)
    joined true b n true false c f g = or-false (b && n) ∙ f refl
    joined true b n false o c f g = or-false (b && n) ∙ f refl
    joined false b n true true c f g = sym (g refl refl)
    joined false b n true false c f g = refl
    joined false b n false o c f g = refl

    left : (l : NameLit) → has_name l (resolvent p r.reached.clause d) ≡ (has_name l literals' && nat_le (place_of slots l) i)
    left l =
        has_name-resolvent p l r.reached.clause d
        ∙ ap (λ (b : Bool). (b && not (same_name p l)) || (has_name l d && not (same_name (opposite p) l))) (r.reached.left l)
        ∙ ap (λ (x : NameLit). ((has_name l literals && nat_le (place_of slots l) bound) && not (same_name p l)) || (has_name l d && not (same_name x l))) (opposite-opposite t)
        ∙ joined (has_name l literals) (nat_le (place_of slots l) bound) (not (same_name p l)) (has_name l d) (not (same_name t l)) (nat_le (place_of slots l) i)
        (lower l) (reason_low l)
        ∙ ap (λ (b : Bool). b && nat_le (place_of slots l) i) (sym (adds l))

-- ---- as the code reads an entry

-- what is read at an index is the entry that stands there
pub entry_read : (entries : List Assigned) (i : ℕ) (e : Assigned) → i < length entries → e ≡ get_or entries i e → e ≡ entry_at entries i
entry_read entries i e h r = get_or_read entries i e h r _

pub entry_named :
    (entries : List Assigned) (slots : List Slot) (i n : ℕ) (e : Assigned)
    → IsTrail entries slots → i < length entries → e ≡ entry_at entries i → n ≡ length slots → e.literal.name < n
entry_named entries slots i n e t h r same =
    let p = place_at_entry entries slots i t h in
    let q : place_of slots e.literal ≡ i + 1 = ap (λ (x : Assigned). place_of slots x.literal) r ∙ p in
    let w = slot_within slots e.literal.name (omega (arith, q)) in
    omega (arith, w, same)

pub mark_read :
    (marked : List Bool) (v : ℕ) (b : Bool) → v < length marked → b ≡ get_or marked v b → get_or marked v false ≡ b
mark_read marked v b h r = sym (get_or_read marked v b h r false)

pub passed_entry :
    (clauses : List PropClause) (entries : List Assigned) (slots : List Slot) (start bound : ℕ) (links : List Link) (marked : List Bool) (literals : PropClause) (e : Assigned)
    → IsTrail entries slots → 0 < bound → bound ≤ length entries
    → IsResolving clauses slots start links marked literals bound
    → e ≡ entry_at entries (bound - 1) → get_or marked e.literal.name false ≡ false
    → IsResolving clauses slots start links marked literals (bound - 1)
passed_entry clauses entries slots start bound links marked literals e t some within r read absent =
    passed clauses entries slots start (bound - 1) bound links marked literals t (omega arith) within r
    (ap (λ (x : Assigned). get_or marked x.literal.name false) (sym read) ∙ absent)

pub turned_entry :
    (clauses : List PropClause) (entries : List Assigned) (slots : List Slot) (start bound : ℕ) (links : List Link) (marked : List Bool) (literals : PropClause) (e : Assigned) (turn : Turn)
    → IsTrail entries slots → 0 < bound → bound ≤ length entries
    → IsResolving clauses slots start links marked literals bound
    → e ≡ entry_at entries (bound - 1) → get_or marked e.literal.name false ≡ true
    → TurnsAt entries slots literals e bound turn → IsTurnOf entries slots literals bound turn
turned_entry clauses entries slots start bound links marked literals e turn t some within r read is turns = record {
  turns = subst (λ (x : Assigned). TurnsAt entries slots literals x bound turn) read turns;
  marked =
      ap (λ (x : NameLit). has_name x literals) (turns.literal ∙ ap (λ (x : Assigned). opposite x.literal) read)
      ∙ marked_at entries slots (bound - 1) marked literals t (omega (arith, some, within)) r.marks r.false_literals
      (ap (λ (x : Assigned). get_or marked x.literal.name false) (sym read) ∙ is);
}

pub implied_entry :
    (clauses : List PropClause) (entries : List Assigned) (slots : List Slot) (bound reason : ℕ) (e : Assigned)
    → IsSound clauses entries slots → 0 < bound → bound ≤ length entries → e ≡ entry_at entries (bound - 1) → e.reason ≡ Some reason
    → IsImplied clauses slots (bound - 1) e.literal reason
implied_entry clauses entries slots bound reason e sound some within read is =
    subst (λ (x : Assigned). IsImplied clauses slots (bound - 1) x.literal reason) (sym read)
    (sound.implied (bound - 1) reason (omega (arith, some, within)) (sym (ap (λ (x : Assigned). x.reason) read) ∙ is))

pub others_false :
    (clauses : List PropClause) (slots : List Slot) (i reason : ℕ) (l : NameLit) (c : PropClause)
    → IsImplied clauses slots i l reason → c ≡ clause_at clauses reason → OthersAreFalse slots c (Some l)
others_false clauses slots i reason l c implied same k h o =
    (and_parts (is_false slots k) (nat_le (place_of slots k) i)
    (implied.others k (ap (has_name k) (sym same) ∙ h) (not-true (same_name l k) o))).0

pub resolved_entry :
    (clauses : List PropClause) (entries : List Assigned) (slots : List Slot) (start bound reason : ℕ)
    (links links' : List Link) (marked marked' : List Bool) (literals literals' : PropClause) (e : Assigned) (p : NameLit) (c : PropClause)
    → IsSound clauses entries slots → 0 < bound → bound ≤ length entries
    → IsResolving clauses slots start links marked literals bound
    → e ≡ entry_at entries (bound - 1) → get_or marked e.literal.name false ≡ true → e.reason ≡ Some reason
    → p ≡ opposite e.literal → links' ≡ links ++ record { pivot = p; number = reason } ∷ []
    → AreMarks marked' literals' → length marked' ≡ length marked
    → c ≡ clause_at clauses reason → AddsOthers c (Some e.literal) literals literals'
    → IsResolving clauses slots start links' marked' literals' (bound - 1)
resolved_entry clauses entries slots start bound reason links links' marked marked' literals literals' e p c sound some within r read is because pivot more marks names clause adds =
    let in_trail : bound - 1 < length entries = omega (arith, some, within) in
    let implied = sound.implied (bound - 1) reason in_trail (sym (ap (λ (x : Assigned). x.reason) read) ∙ because) in
    let there = marked_at entries slots (bound - 1) marked literals sound.trail in_trail r.marks r.false_literals
    (ap (λ (x : Assigned). get_or marked x.literal.name false) (sym read) ∙ is) in
    let same_pivot : p ≡ opposite (entry_at entries (bound - 1)).literal = pivot ∙ ap (λ (x : Assigned). opposite x.literal) read in
    let adds' : AddsOthers (clause_at clauses reason) (Some (entry_at entries (bound - 1)).literal) literals literals' =
    subst (λ (x : Assigned). AddsOthers (clause_at clauses reason) (Some x.literal) literals literals') read
    (subst (λ (x : PropClause). AddsOthers x (Some e.literal) literals literals') clause adds) in
    subst (λ (ls : List Link). IsResolving clauses slots start ls marked' literals' (bound - 1))
    (ap (λ (x : NameLit). links ++ record { pivot = x; number = reason } ∷ []) (sym same_pivot) ∙ sym more)
    (resolved clauses entries slots start (bound - 1) bound reason links marked marked' literals literals' sound (omega arith) within r there implied marks names adds')

-- ---- the begin and the end

-- the false clause itself
pub begun :
    (clauses : List PropClause) (entries : List Assigned) (slots : List Slot) (start : ℕ) (marked : List Bool) (literals c : PropClause)
    → IsTrail entries slots → AreFalse slots (clause_at clauses start) → AreMarks marked literals → length marked ≡ length slots
    → c ≡ clause_at clauses start → AddsOthers c None [] literals
    → IsResolving clauses slots start [] marked literals (length entries)
begun clauses entries slots start marked literals c t wrong marks names clause adds = record {
  marks = marks;
  names = names;
  false_literals = λ l h. wrong l (sym (same l) ∙ h);
  reached = record {
    clause = clause_at clauses start;
    lawful = refl;
    left = λ l. sym (same l)
        ∙ kept (has_name l literals) (nat_le (place_of slots l) (length entries))
        (λ h. low l (place_of slots l) (wrong l (sym (same l) ∙ h)) refl);
  };
}
  where
    kept : (a b : Bool) → (a ≡ true → b ≡ true) → a ≡ (a && b)
    kept true b f = sym (f refl)
    kept false b f = refl

    same : (l : NameLit) → has_name l literals ≡ has_name l (clause_at clauses start)
    same l = adds l ∙ and-true (has_name l c) ∙ ap (has_name l) clause

    low : (l : NameLit) (p : ℕ) → IsTrue (is_false slots l) → place_of slots l ≡ p → nat_le (place_of slots l) (length entries) ≡ true
    low l zero f e = le-leb (place_of slots l) (length entries) (omega (arith, e))
    low l (suc i) f e = let k = t.known l.name i (e ∙ omega arith) in le-leb (place_of slots l) (length entries) (omega (arith, e, k.0))

-- nothing is left: the links make the empty clause
pub nothing_left :
    (clauses : List PropClause) (slots : List Slot) (start bound : ℕ) (links : List Link) (marked : List Bool) (literals : PropClause)
    → bound ≡ 0 → (r : IsResolving clauses slots start links marked literals bound) → SameLiterals [] r.reached.clause
nothing_left clauses slots start bound links marked literals none r l =
    sym (r.reached.left l ∙ no_place (has_name l literals) (nat_le (place_of slots l) bound) (λ h.
    let p = false_has_place slots l (r.false_literals l h) in lt-leb (place_of slots l) bound (omega (arith, p, none))))
  where
    no_place : (a b : Bool) → (a ≡ true → b ≡ false) → (a && b) ≡ false
    no_place true b f = f refl
    no_place false b f = refl

-- ---- the analysis as a whole

pub analysis_of_none :
    (clauses : List PropClause) (entries : List Assigned) (slots : List Slot) (start bound : ℕ) (links : List Link) (marked : List Bool) (literals clause : PropClause)
    → bound ≡ 0 → IsResolving clauses slots start links marked literals bound → clause ≡ []
    → IsAnalysis clauses entries slots start links clause None
analysis_of_none clauses entries slots start bound links marked literals clause zero_bound r empty = record {
  made = r.reached.clause;
  lawful = r.reached.lawful;
  same = λ l. ap (has_name l) empty ∙ nothing_left clauses slots start bound links marked literals zero_bound r l;
  turns = empty;
}
