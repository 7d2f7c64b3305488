-- A learned clause made smaller.
use Rattle.std.proofs.Common.{◌≡◌, ℕ, ◌+◌, ◌-◌, ◌<◌, ◌≤◌, Bool, true, false, not, ◌&&◌, ◌||◌, List, [], ◌∷◌, ◌++◌, length, get_or, set, Some, refl, ap, sym, ◌∙◌, subst, arith, ◌⊎◌, inl, inr, ⊎_elim}
use Rattle.std.specs.Prelude.{IsTrue, nat_le}
use Rattle.std.specs.List.{list_all}
use Rattle.std.proofs.lemmas.Bool.{cases_Bool, cases_eq, cases_lt, or_cases, and_parts, and_from, le-leb, leb-true, both_ways, not-true}
use Rattle.std.proofs.lemmas.List.{get_or-set_same, get_or-set_other, length-set}
use Rattle.std.proofs.lemmas.Option.{slice_get-get_or}
use Rattle.plain_types.specs.declared.sequence.NameLit.{NameLit}
use Rattle.plain_types.specs.Names.{same_name, has_name, opposite, can_resolve, resolvent}
use Rattle.plain_types.proofs.NameLemmas.{same_name-refl, same_name-true, opposite-opposite, has_name-resolvent}
use Rattle.sat_core.specs.declared.answer.Link.{Link}
use Rattle.sat_core.specs.declared.trail.Assigned.{Assigned}
use Rattle.sat_core.specs.declared.trail.Slot.{Slot}
use Rattle.sat_core.specs.declared.analysis.Turn.{Turn}
use Rattle.sat_core.specs.Clause.{PropClause}
use Rattle.sat_core.specs.Trail.{IsTrail, entry_at, slot_at, place_of, is_false}
use Rattle.sat_core.specs.State.{IsSound, IsImplied, AreFalse, AreMarks, AreCovered, clause_at, mentions}
use Rattle.sat_core.specs.Conflict.{IsResolving, IsReduced, IsTurnOf, IsTurn, IsAnalysis, is_covered, is_left}
use Rattle.sat_core.proofs.AboutConflicts.MarkLemmas.{mentions_of, literal_of_name, left_of_marks}
use Rattle.sat_core.proofs.AboutConflicts.LogLemmas.{link_clause_at}
use Rattle.sat_core.proofs.AboutConflicts.AnalysisLemmas.{false_of_one_name}
use Rattle.sat_core.proofs.AboutConflicts.ResolveLemmas.{false_at_entry, false_literal_at, place_at_entry, links_clause_push}

-- ---- before anything is resolved away

pub reduced_from :
    (clauses : List PropClause) (entries : List Assigned) (slots : List Slot) (start bound : ℕ) (links : List Link) (marked : List Bool) (literals : PropClause)
    → IsResolving clauses slots start links marked literals bound → IsTrue (get_or marked (entry_at entries (bound - 1)).literal.name false)
    → IsReduced clauses entries slots start links marked literals bound
reduced_from clauses entries slots start bound links marked literals r last = record {
  marks = left_of_marks marked literals r.marks;
  names = r.names;
  false_literals = r.false_literals;
  last = last;
  clause = r.reached.clause;
  lawful = r.reached.lawful;
  left = λ l. r.reached.left l
      ∙ all_marked (has_name l literals) (get_or marked l.name false) (nat_le (place_of slots l) bound)
      (λ h. r.marks l.name ∙ mentions_of literals l h);
}
  where
    all_marked : (a m b : Bool) → (a ≡ true → m ≡ true) → (a && b) ≡ (a && (m && b))
    all_marked true m b f = ap (λ (x : Bool). x && b) (sym (f refl))
    all_marked false m b f = refl

-- the literal of the turn is marked
pub last_marked :
    (entries : List Assigned) (slots : List Slot) (bound : ℕ) (marked : List Bool) (literals : PropClause) (turn : Turn)
    → AreMarks marked literals → IsTurnOf entries slots literals bound turn → IsTrue (get_or marked (entry_at entries (bound - 1)).literal.name false)
last_marked entries slots bound marked literals turn marks of =
    ap (λ (l : NameLit). get_or marked l.name false) (sym of.turns.literal) ∙ marks turn.literal.name ∙ mentions_of literals turn.literal of.marked

-- ---- a literal that is resolved away

-- what holds of all literals holds of each
pub each_of : (p : NameLit → Bool) (c : PropClause) (k : NameLit) → list_all p c ≡ true → IsTrue (has_name k c) → p k ≡ true
each_of p [] k all h = cc
each_of p (x ∷ c) k all h =
    let parts = and_parts (p x) (list_all p c) all in
    ⊎_elim (λ (e : same_name k x ≡ true). ap p (same_name-true k x e) ∙ parts.0) (λ (e : has_name k c ≡ true). each_of p c k parts.1 e)
    (or_cases (same_name k x) (has_name k c) h)

-- a false literal whose name is marked stands among the marked ones
pub marked_literal :
    (slots : List Slot) (marked : List Bool) (literals : PropClause) (l : NameLit)
    → AreCovered marked literals → AreFalse slots literals → IsTrue (is_false slots l) → IsTrue (get_or marked l.name false) → IsTrue (has_name l literals)
marked_literal slots marked literals l marks wrong is_wrong is =
    let found = literal_of_name l.name literals (marks.covered l.name is) in
    ap (λ (x : NameLit). has_name x literals) (sym (false_of_one_name slots l found.0 is_wrong (wrong found.0 found.2) found.1)) ∙ found.2

pub unmarked : (marked : List Bool) (literals : PropClause) (v : ℕ) → v < length marked → AreCovered marked literals → AreCovered (set marked v false) literals
unmarked marked literals v named marks = record {
  covered = λ w h. covers w h (cases_eq w v);
  within = λ l h. let p = marks.within l h in let q : length (set marked v false) ≡ length marked = length-set marked v false in omega (arith, p, q);
}
  where
    covers : (w : ℕ) → IsTrue (get_or (set marked v false) w false) → (w ≡ v) ⊎ (w ≡ v → ⊥) → IsTrue (mentions w literals)
    covers w h (inl e) =
        absurd (both_ways (get_or (set marked v false) w false)
        (ap (λ (n : ℕ). get_or (set marked v false) n false) e ∙ get_or-set_same marked v false false named) h)
    covers w h (inr e) = marks.covered w (sym (get_or-set_other marked v w false false e) ∙ h)

pub implied_away :
    (clauses : List PropClause) (entries : List Assigned) (slots : List Slot) (start i bound reason : ℕ) (links : List Link) (marked : List Bool) (literals : PropClause)
    → IsSound clauses entries slots → i + 1 < bound → bound ≤ length entries
    → IsReduced clauses entries slots start links marked literals bound
    → IsTrue (get_or marked (entry_at entries i).literal.name false)
    → IsImplied clauses slots i (entry_at entries i).literal reason
    → list_all (is_covered marked (entry_at entries i).literal) (clause_at clauses reason) ≡ true
    → IsReduced clauses entries slots start (links ++ record { pivot = opposite (entry_at entries i).literal; number = reason } ∷ [])
    (set marked (entry_at entries i).literal.name false) literals bound
implied_away clauses entries slots start i bound reason links marked literals sound below within r is implied all = record {
  marks = unmarked marked literals t.name named r.marks;
  names = length-set marked t.name false ∙ r.names;
  false_literals = r.false_literals;
  last = get_or-set_other marked t.name (entry_at entries (bound - 1)).literal.name false false apart ∙ r.last;
  clause = resolvent p r.clause d;
  lawful = links_clause_push clauses (clause_at clauses start) r.clause (resolvent p r.clause d) links
      (record { pivot = p; number = reason }) r.lawful
      (link_clause_at clauses r.clause d (record { pivot = p; number = reason }) (slice_get-get_or clauses reason [] implied.within) can);
  left = λ l. left l (cases_eq l.name t.name);
}
  where
    t : NameLit
    t = (entry_at entries i).literal

    p : NameLit
    p = opposite t

    d : PropClause
    d = clause_at clauses reason

    in_trail : i < length entries
    in_trail = omega (arith, below, within)

    top : place_of slots p ≡ i + 1
    top = place_at_entry entries slots i sound.trail in_trail

    p_false : IsTrue (is_false slots p)
    p_false = false_at_entry entries slots i sound.trail in_trail

    there : IsTrue (has_name p literals)
    there = marked_literal slots marked literals p r.marks r.false_literals p_false is

    named : t.name < length marked
    named = r.marks.within p there

    apart : (entry_at entries (bound - 1)).literal.name ≡ t.name → ⊥
    apart e =
        let q = place_at_entry entries slots (bound - 1) sound.trail (omega (arith, below, within)) in
        let s : place_of slots (entry_at entries (bound - 1)).literal ≡ place_of slots t = ap (λ (v : ℕ). (slot_at slots v).place) e in
        omega (arith, q, s, top, below)

    can : can_resolve p r.clause d ≡ true
    can = and_from (has_name p r.clause) (has_name (opposite p) d)
        (r.left p
        ∙ and_from (has_name p literals) (is_left slots marked bound p) there
        (and_from (get_or marked p.name false) (nat_le (place_of slots p) bound) is (le-leb (place_of slots p) bound (omega (arith, top, below)))))
        (ap (λ (x : NameLit). has_name x d) (opposite-opposite t) ∙ implied.member)

    -- the reason's other literals are in the clause
    other_in : (l : NameLit) → has_name l d ≡ true → not (same_name t l) ≡ true → has_name l r.clause ≡ true
    other_in l h o =
        let parts = and_parts (is_false slots l) (nat_le (place_of slots l) i) (implied.others l h (not-true (same_name t l) o)) in
        let marked_l : get_or marked l.name false ≡ true =
        ⊎_elim (λ (s : same_name t l ≡ true). absurd (both_ways (same_name t l) (not-true (same_name t l) o) s)) (λ (s : get_or marked l.name false ≡ true). s)
        (or_cases (same_name t l) (get_or marked l.name false) (each_of (is_covered marked t) d l all h)) in
        let low = leb-true (place_of slots l) i parts.1 in
        r.left l
        ∙ and_from (has_name l literals) (is_left slots marked bound l) (marked_literal slots marked literals l r.marks r.false_literals parts.0 marked_l)
        (and_from (get_or marked l.name false) (nat_le (place_of slots l) bound) marked_l (le-leb (place_of slots l) bound (omega (arith, low, below))))

    made : (l : NameLit) → has_name l (resolvent p r.clause d) ≡ ((has_name l r.clause && not (same_name p l)) || (has_name l d && not (same_name t l)))
    made l =
        has_name-resolvent p l r.clause d
        ∙ ap (λ (x : NameLit). (has_name l r.clause && not (same_name p l)) || (has_name l d && not (same_name x l))) (opposite-opposite t)

    gone : (a n h o : Bool) → (a ≡ true → n ≡ false) → (h ≡ true → o ≡ true → ⊥) → ((a && n) || (h && o)) ≡ false
    gone true n true true f g = absurd (g refl refl)
    gone true n true false f g = ap (λ (x : Bool). x || false) (f refl)
    gone true n false o f g = ap (λ (x : Bool). x || false) (f refl)
    gone false n true true f g = absurd (g refl refl)
    gone false n true false f g = refl
    gone false n false o f g = refl

    stays : (a n h o : Bool) → n ≡ true → (h ≡ true → o ≡ true → a ≡ true) → ((a && n) || (h && o)) ≡ a
    stays true n h o f g = ap (λ (x : Bool). x || (h && o)) f
    stays false n true true f g = sym (g refl refl)
    stays false n true false f g = refl
    stays false n false o f g = refl

    none : (a m b : Bool) → m ≡ false → false ≡ (a && (m && b))
    none true m b f = ap (λ (x : Bool). x && b) (sym f)
    none false m b f = refl

    left :
        (l : NameLit) → (l.name ≡ t.name) ⊎ (l.name ≡ t.name → ⊥)
        → has_name l (resolvent p r.clause d) ≡ (has_name l literals && is_left slots (set marked t.name false) bound l)
    left l (inl e) =
        made l
        ∙ gone (has_name l r.clause) (not (same_name p l)) (has_name l d) (not (same_name t l)) pivot_itself not_there
        ∙ none (has_name l literals) (get_or (set marked t.name false) l.name false) (nat_le (place_of slots l) bound)
        (ap (λ (n : ℕ). get_or (set marked t.name false) n false) e ∙ get_or-set_same marked t.name false false named)
      where
        pivot_itself : has_name l r.clause ≡ true → not (same_name p l) ≡ false
        pivot_itself h =
            let parts = and_parts (has_name l literals) (is_left slots marked bound l) (sym (r.left l) ∙ h) in
            let same : l ≡ p = false_of_one_name slots p l p_false (r.false_literals l parts.0) e in
            ap not (ap (same_name p) same ∙ same_name-refl p)

        not_there : has_name l d ≡ true → not (same_name t l) ≡ true → ⊥
        not_there h o =
            let parts = and_parts (is_false slots l) (nat_le (place_of slots l) i) (implied.others l h (not-true (same_name t l) o)) in
            let low = leb-true (place_of slots l) i parts.1 in
            let s : place_of slots l ≡ place_of slots t = ap (λ (v : ℕ). (slot_at slots v).place) e in
            omega (arith, low, s, top)
    left l (inr e) =
        made l
        ∙ stays (has_name l r.clause) (not (same_name p l)) (has_name l d) (not (same_name t l)) other_name (other_in l)
        ∙ r.left l
        ∙ ap (λ (m : Bool). has_name l literals && (m && nat_le (place_of slots l) bound)) (sym (get_or-set_other marked t.name l.name false false e))
      where
        other_name : not (same_name p l) ≡ true
        other_name =
            ⊎_elim (λ (s : same_name p l ≡ true). absurd (e (sym (ap (λ (x : NameLit). x.name) (same_name-true p l s)))))
            (λ (s : same_name p l ≡ false). ap not s) (cases_Bool (same_name p l))

-- ---- as the code reads an entry

pub implied_read :
    (clauses : List PropClause) (entries : List Assigned) (slots : List Slot) (i reason : ℕ) (e : Assigned)
    → IsSound clauses entries slots → i < length entries → e ≡ entry_at entries i → e.reason ≡ Some reason
    → IsImplied clauses slots i e.literal reason
implied_read clauses entries slots i reason e sound h read is =
    subst (λ (x : Assigned). IsImplied clauses slots i x.literal reason) (sym read)
    (sound.implied i reason h (sym (ap (λ (x : Assigned). x.reason) read) ∙ is))

pub entry_away :
    (clauses : List PropClause) (entries : List Assigned) (slots : List Slot) (start i bound reason : ℕ)
    (links links' : List Link) (marked marked' : List Bool) (literals literals' : PropClause) (e : Assigned) (p : NameLit) (c : PropClause)
    → IsSound clauses entries slots → i + 1 < bound → bound ≤ length entries
    → IsReduced clauses entries slots start links marked literals bound
    → e ≡ entry_at entries i → e.reason ≡ Some reason → IsTrue (get_or marked e.literal.name false)
    → c ≡ clause_at clauses reason → list_all (is_covered marked e.literal) c ≡ true
    → p ≡ opposite e.literal → links' ≡ links ++ record { pivot = p; number = reason } ∷ []
    → marked' ≡ set marked e.literal.name false → literals' ≡ literals
    → IsReduced clauses entries slots start links' marked' literals' bound
entry_away clauses entries slots start i bound reason links links' marked marked' literals literals' e p c sound below within r read because is clause all pivot more less same =
    subst (λ (ls : List Link). IsReduced clauses entries slots start ls marked' literals' bound) (sym links_are)
    (subst (λ (m : List Bool). IsReduced clauses entries slots start (links ++ record { pivot = opposite (entry_at entries i).literal; number = reason } ∷ []) m literals' bound) (sym marks_are)
    (subst (λ (ls : PropClause). IsReduced clauses entries slots start (links ++ record { pivot = opposite (entry_at entries i).literal; number = reason } ∷ []) (set marked (entry_at entries i).literal.name false) ls bound) (sym same)
    (implied_away clauses entries slots start i bound reason links marked literals sound below within r
    (ap (λ (x : Assigned). get_or marked x.literal.name false) (sym read) ∙ is)
    (sound.implied i reason (omega (arith, below, within)) (sym (ap (λ (x : Assigned). x.reason) read) ∙ because))
    (ap (λ (x : Assigned). list_all (is_covered marked x.literal) (clause_at clauses reason)) (sym read)
    ∙ ap (list_all (is_covered marked e.literal)) (sym clause) ∙ all))))
  where
    links_are : links' ≡ links ++ record { pivot = opposite (entry_at entries i).literal; number = reason } ∷ []
    links_are = more ∙ ap (λ (x : NameLit). links ++ record { pivot = x; number = reason } ∷ []) (pivot ∙ ap (λ (x : Assigned). opposite x.literal) read)

    marks_are : marked' ≡ set marked (entry_at entries i).literal.name false
    marks_are = less ∙ ap (λ (x : Assigned). set marked x.literal.name false) read

-- ---- the clause that is left

-- a decision is turned
pub turned :
    (clauses : List PropClause) (entries : List Assigned) (slots : List Slot) (start bound : ℕ) (links : List Link) (marked : List Bool) (literals clause : PropClause) (turn : Turn)
    → IsTrail entries slots → 0 < bound → bound ≤ length entries
    → IsReduced clauses entries slots start links marked literals bound → IsTurnOf entries slots literals bound turn
    → ((l : NameLit) → has_name l clause ≡ (has_name l literals && is_left slots marked bound l))
    → IsTurn entries slots clause turn
turned clauses entries slots start bound links marked literals clause turn t some within r of kept = record {
  member = kept turn.literal
      ∙ and_from (has_name turn.literal literals) (is_left slots marked bound turn.literal) of.marked
      (and_from (get_or marked turn.literal.name false) (nat_le (place_of slots turn.literal) bound)
      (ap (λ (l : NameLit). get_or marked l.name false) of.turns.literal ∙ r.last) (le-leb _ _ (omega (arith, top))));
  within = omega (arith, of.turns.within, within);
  decision = of.turns.decision;
  later = omega (arith, top, of.turns.within);
  others = λ k h o.
      let parts = and_parts (has_name k literals) (is_left slots marked bound k) (sym (kept k) ∙ h) in
      let wrong = r.false_literals k parts.0 in
      let low = leb-true (place_of slots k) bound (and_parts (get_or marked k.name false) (nat_le (place_of slots k) bound) parts.1).1 in
      let below : place_of slots k < bound =
      ⊎_elim (λ (x : place_of slots k < bound). x)
      (λ (x : bound ≤ place_of slots k).
      let same : k ≡ turn.literal =
      false_literal_at entries slots (bound - 1) k t (omega (arith, some, within)) wrong (omega (arith, low, x, some)) ∙ sym of.turns.literal in
      absurd (both_ways (same_name turn.literal k) o (ap (same_name turn.literal) same ∙ same_name-refl turn.literal)))
      (cases_lt (place_of slots k) bound) in
      let under = of.turns.below k parts.0 below in
      and_from (is_false slots k) (nat_le (place_of slots k) turn.cut) wrong (le-leb (place_of slots k) turn.cut under);
}
  where
    top : place_of slots turn.literal ≡ bound
    top =
        let p = place_at_entry entries slots (bound - 1) t (omega (arith, some, within)) in
        let q = ap (place_of slots) of.turns.literal in
        omega (arith, p, q, some)

pub analysis_of_turn :
    (clauses : List PropClause) (entries : List Assigned) (slots : List Slot) (start bound : ℕ) (links : List Link) (marked : List Bool) (literals clause : PropClause) (turn : Turn)
    → IsTrail entries slots → 0 < bound → bound ≤ length entries
    → IsReduced clauses entries slots start links marked literals bound → IsTurnOf entries slots literals bound turn
    → ((l : NameLit) → has_name l clause ≡ (has_name l literals && is_left slots marked bound l))
    → IsAnalysis clauses entries slots start links clause (Some turn)
analysis_of_turn clauses entries slots start bound links marked literals clause turn t some within r of kept = record {
  made = r.clause;
  lawful = r.lawful;
  same = λ l. kept l ∙ sym (r.left l);
  turns = turned clauses entries slots start bound links marked literals clause turn t some within r of kept;
}
