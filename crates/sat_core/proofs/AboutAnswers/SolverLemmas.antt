-- Steps of the solver.
use Rattle.std.proofs.Common.{◌≡◌, ℕ, zero, suc, ◌+◌, ◌*◌, ◌<◌, ◌≤◌, Bool, true, false, not, ◌&&◌, List, [], ◌∷◌, ◌++◌, length, get_or, set, take, Option, Some, None, refl, ap, sym, ◌∙◌, subst, arith, ⊎_elim}
use mathlib.Core.Bool.{beq}
use Rattle.std.specs.Prelude.{IsTrue, slice_get, option_and_then, MatchOption, nat_lt}
use Rattle.std.specs.List.{list_any, list_all}
use Rattle.std.proofs.lemmas.Bool.{cases_lt, or_cases, or_left, or_right, or_parts, and_parts, and_from, lt-ltb, ltb-true}
use Rattle.std.proofs.lemmas.List.{get_or_push, get_or_past, get_or-map, length_push, length-map, append-nil, append_assoc}
use Rattle.std.proofs.lemmas.List.Folds.{list_all_more}
use Rattle.std.proofs.lemmas.Option.{slice_get-get_or, same_Some, none-some}
use Rattle.plain_types.specs.declared.sequence.NameLit.{NameLit}
use Rattle.plain_types.specs.Names.{has_name, same_name}
use Rattle.plain_types.proofs.NameLemmas.{same_name-true}
use Rattle.sat_core.specs.declared.trail.Assigned.{Assigned}
use Rattle.sat_core.specs.declared.trail.Slot.{Slot}
use Rattle.sat_core.specs.declared.analysis.Turn.{Turn}
use Rattle.sat_core.specs.declared.answer.Link.{Link}
use Rattle.sat_core.specs.declared.solver.Solver.{Solver}
use Rattle.sat_core.specs.declared.solver.Step.{Step}
use Rattle.sat_core.specs.declared.solver.Step.TheVariants.{Going, Satisfied, Refuted}
use Rattle.sat_core.specs.Clause.{PropClause, literal_true, clause_true, clauses_true, valuation_of, names_below}
use Rattle.sat_core.specs.Resolution.{links_clause, log_clauses}
use Rattle.sat_core.specs.Trail.{IsTrail, IsNewTrail, Cuts, slot_at, slot_of, place_of, has_place, is_true}
use Rattle.sat_core.specs.State.{IsSound, IsImplied, SameLiterals, SameClauses, clause_at, Derives, AreNamed, AreFalse}
use Rattle.sat_core.specs.declared.clauses.Clauses.{Clauses}
use Rattle.sat_core.specs.Known.{known, chains_of, IsKnown}
use Rattle.sat_core.specs.Conflict.{IsTurn, IsAnalysis, AreWithin}
use Rattle.sat_core.specs.Search.{HaveLists, HasNoTrue, AreAssigned, value_of, values_of}
use Rattle.sat_core.specs.Solver.{IsState, Keeps, Advances, Steps, left_to_try}
use Rattle.sat_core.proofs.AboutConflicts.AnalysisLemmas.{has_name_more}
use Rattle.sat_core.proofs.AboutAnswers.SoundLemmas.{grown, pushed_sound, cut_sound, turn_named, turn_free, turn_implied}

pub derives_of :
    (clauses : List PropClause) (entries : List Assigned) (slots : List Slot) (start n : ℕ) (links : List Link) (clause : PropClause) (turn : Option Turn)
    → n ≡ start → start < length clauses → IsAnalysis clauses entries slots start links clause turn
    → Derives clauses (record { start = n; links = links }) clause
derives_of clauses entries slots start n links clause turn e within is = record {
  made = is.made;
  lawful =
      ap (λ (o : Option PropClause). option_and_then (λ (c : PropClause). links_clause clauses c links) o)
      (ap (slice_get clauses) e ∙ slice_get-get_or clauses start [] within)
      ∙ is.lawful;
  same = is.same;
}

pub turn_of :
    (clauses : List PropClause) (entries : List Assigned) (slots : List Slot) (start : ℕ) (links : List Link) (clause : PropClause) (found : Option Turn) (turn : Turn)
    → IsAnalysis clauses entries slots start links clause found → found ≡ Some turn → IsTurn entries slots clause turn
turn_of clauses entries slots start links clause found turn is turns =
    subst (λ (o : Option Turn). MatchOption o (clause ≡ []) (IsTurn entries slots clause)) turns is.turns

pub refutes_of :
    (clauses : List PropClause) (entries : List Assigned) (slots : List Slot) (start n : ℕ) (links : List Link) (clause : PropClause) (turn : Option Turn)
    → n ≡ start → start < length clauses → IsAnalysis clauses entries slots start links clause turn → turn ≡ None
    → Derives clauses (record { start = n; links = links }) []
refutes_of clauses entries slots start n links clause turn e within is turns =
    subst (λ (c : PropClause). Derives clauses (record { start = n; links = links }) c)
    (subst (λ (o : Option Turn). MatchOption o (clause ≡ []) (IsTurn entries slots clause)) turns is.turns)
    (derives_of clauses entries slots start n links clause turn e within is)

-- the names of the learned clause have slots, and lists
pub learned_within :
    (entries : List Assigned) (slots slots' : List Slot) (clause c : PropClause) (turn : Turn)
    → IsTurn entries slots clause turn → length slots' ≡ length slots → c ≡ clause → AreWithin (length slots') c
learned_within entries slots slots' clause c turn is same at k h =
    let w = turn_named entries slots clause turn is k (ap (has_name k) (sym at) ∙ h) in omega (arith, w, same)

pub learned_lists :
    (entries : List Assigned) (slots : List Slot) (clause c : PropClause) (turn : Turn) (n : ℕ)
    → IsTurn entries slots clause turn → n ≡ 2 * length slots → c ≡ clause → HaveLists n c
learned_lists entries slots clause c turn n is same at k h =
    let w = turn_named entries slots clause turn is k (ap (has_name k) (sym at) ∙ h) in omega (arith, w, same)

pub turn_sound :
    (clauses clauses' : List PropClause) (entries entries' entries'' : List Assigned) (slots slots' slots'' : List Slot) (clause : PropClause) (turn : Turn) (n : ℕ)
    → IsSound clauses entries slots → IsTurn entries slots clause turn → Cuts turn.cut entries slots entries' slots'
    → clauses' ≡ clauses ++ clause ∷ [] → n ≡ length clauses
    → IsTrail entries'' slots'' → entries'' ≡ entries' ++ record { literal = turn.literal; reason = Some n } ∷ []
    → slots'' ≡ set slots' turn.literal.name (slot_of (length entries') (record { literal = turn.literal; reason = Some n }))
    → IsSound clauses' entries'' slots''
turn_sound clauses clauses' entries entries' entries'' slots slots' slots'' clause turn n sound is cuts learned number t more written =
    let low : turn.cut ≤ length entries = let w = is.within in omega (arith, w) in
    let more_clauses : IsSound clauses' entries slots =
    subst (λ (cs : List PropClause). IsSound cs entries slots) (sym learned) (grown clauses entries slots clause sound (turn_named entries slots clause turn is)) in
    let after : IsSound clauses' entries' slots' = cut_sound clauses' entries entries' slots slots' turn.cut more_clauses low cuts in
    let within : n < length clauses' = let c = ap length learned ∙ length_push clauses clause in omega (arith, c, number) in
    let same : SameLiterals clause (clause_at clauses' n) =
    λ l. sym (ap (λ (cs : List PropClause). has_name l (clause_at cs n)) learned ∙ ap (has_name l) (get_or_push clauses clause [] n (sym number))) in
    pushed_sound clauses' entries' entries'' slots' slots'' (record { literal = turn.literal; reason = Some n }) after
    (turn_free entries entries' slots slots' clause turn is cuts)
    (λ reason because. subst (λ (m : ℕ). IsImplied clauses' slots' (length entries') turn.literal m) (same_Some n reason because)
    (turn_implied clauses' entries entries' slots slots' clause turn n is cuts within same)) t more written

-- one more clause is known
pub known_grown :
    (c c' : Clauses) (clause : PropClause) → c'.inputs.now ≡ c.inputs.now → c'.learned ≡ c.learned ++ clause ∷ [] → known c' ≡ known c ++ clause ∷ []
known_grown c c' clause same more =
    ap (λ (ins : List PropClause). ins ++ c'.learned) same ∙ ap (λ (ls : List PropClause). c.inputs.now ++ ls) more
    ∙ sym (append_assoc c.inputs.now c.learned (clause ∷ []))

-- ---- values

value_at : (slots : List Slot) (v : ℕ) → valuation_of (values_of slots) v ≡ value_of (slot_at slots v)
value_at slots v =
    ⊎_elim (λ (h : v < length slots). get_or-map value_of slots v _ false h)
    (λ (h : length slots ≤ v).
    get_or_past (values_of slots) v false (let e = length-map slots value_of in omega (arith, h, e)) ∙ sym (ap value_of (get_or_past slots v _ h)))
    (cases_lt v (length slots))

literal_true_of : (slots : List Slot) (l : NameLit) → is_true slots l ≡ true → literal_true (valuation_of (values_of slots)) l ≡ true
literal_true_of slots l h =
    ap (λ (b : Bool). beq b l.positive) (value_at slots l.name)
    ∙ go (has_place (slot_at slots l.name)) (slot_at slots l.name).positive l.positive h
  where
    go : (p s b : Bool) → (p && beq s b) ≡ true → beq (p && s) b ≡ true
    go true s b e = e
    go false s b e = cc

pub clause_true_of : (slots : List Slot) (c : PropClause) → list_any (is_true slots) c ≡ true → clause_true (valuation_of (values_of slots)) c ≡ true
clause_true_of slots [] h = h
clause_true_of slots (l ∷ c) h =
    ⊎_elim (λ (e : is_true slots l ≡ true). or_left (literal_true (valuation_of (values_of slots)) l) (clause_true (valuation_of (values_of slots)) c) (literal_true_of slots l e))
    (λ (e : list_any (is_true slots) c ≡ true). or_right (literal_true (valuation_of (values_of slots)) l) (clause_true (valuation_of (values_of slots)) c) (clause_true_of slots c e))
    (or_cases (is_true slots l) (list_any (is_true slots) c) h)

pub clauses_true_more :
    (slots : List Slot) (clauses : List PropClause) (n : ℕ)
    → n < length clauses → IsTrue (clauses_true (valuation_of (values_of slots)) (take n clauses))
    → list_any (is_true slots) (clause_at clauses n) ≡ true
    → IsTrue (clauses_true (valuation_of (values_of slots)) (take (n + 1) clauses))
clauses_true_more slots clauses n h before at =
    list_all_more (clause_true (valuation_of (values_of slots))) clauses n [] h
    ∙ and_from (clauses_true (valuation_of (values_of slots)) (take n clauses)) (clause_true (valuation_of (values_of slots)) (clause_at clauses n)) before (clause_true_of slots (clause_at clauses n) at)

pub no_true_literal : (slots : List Slot) (c : PropClause) → list_any (is_true slots) c ≡ false → HasNoTrue slots c
no_true_literal slots [] h k m = cc
no_true_literal slots (l ∷ c) h k m =
    let parts = or_parts (is_true slots l) (list_any (is_true slots) c) h in
    ⊎_elim (λ (e : same_name k l ≡ true). ap (is_true slots) (same_name-true k l e) ∙ parts.0)
    (λ (e : has_name k c ≡ true). no_true_literal slots c parts.1 k e)
    (or_cases (same_name k l) (has_name k c) m)

-- literals that have values and aren't true are false
pub all_false_of : (slots : List Slot) (c : PropClause) → HasNoTrue slots c → AreAssigned slots c → AreFalse slots c
all_false_of slots c no_true assigned k h =
    go (has_place (slot_at slots k.name)) (beq (slot_at slots k.name).positive k.positive) (lt-ltb 0 (place_of slots k) (assigned k h)) (no_true k h)
  where
    go : (p b : Bool) → p ≡ true → (p && b) ≡ false → (p && not b) ≡ true
    go true true e f = cc
    go true false e f = refl
    go false b e f = cc

pub assigned_more :
    (slots : List Slot) (xs : PropClause) (i : ℕ) (x : NameLit)
    → i < length xs → x ≡ get_or xs i x → AreAssigned slots (take i xs) → 0 < place_of slots x → AreAssigned slots (take (i + 1) xs)
assigned_more slots xs i x h e before at k there =
    ⊎_elim (λ (f : has_name k (take i xs) ≡ true). before k f)
    (λ (f : same_name k x ≡ true). let q : place_of slots k ≡ place_of slots x = ap (place_of slots) (same_name-true k x f) in omega (arith, q, at))
    (or_cases (has_name k (take i xs)) (same_name k x) (sym (has_name_more xs i x k h e) ∙ there))

-- ---- one step after another

below_then : (old mid mid' new new' : ℕ) → mid ≤ old → new' < mid' → new' ≡ new → mid' ≡ mid → new < old
below_then old mid mid' new new' a b c d = omega (arith, a, b, c, d)

pub advances_after : (old mid new : Solver) → Keeps old mid → Advances mid new → Advances old new
advances_after old mid new first second = record {
  state = second.state;
  inputs = second.inputs ∙ first.inputs;
  names = second.names ∙ first.names;
  fewer =
      below_then (left_to_try (length old.trail.slots.items) old) (left_to_try (length old.trail.slots.items) mid) (left_to_try (length mid.trail.slots.items) mid)
      (left_to_try (length old.trail.slots.items) new) (left_to_try (length mid.trail.slots.items) new)
      first.no_more second.fewer (ap (λ (n : ℕ). left_to_try n new) first.names) (ap (λ (n : ℕ). left_to_try n mid) first.names);
}

pub steps_after : (old mid new : Solver) (step : Step) → Keeps old mid → Steps mid new step → Steps old new step
steps_after old mid new Going first second = advances_after old mid new first second
steps_after old mid new Satisfied first second = record {
  names = second.names ∙ first.names;
  makes_true = subst (λ (cs : List PropClause). IsTrue (clauses_true (valuation_of (values_of new.trail.slots.items)) cs)) first.inputs second.makes_true;
}
steps_after old mid new Refuted first second = record { refuted = second.refuted; inputs = second.inputs ∙ first.inputs }

pub keeps_none : (s : Solver) → IsState s → Keeps s s
keeps_none s state = record { state = state; inputs = refl; names = refl; no_more = omega arith }

-- ---- the begin

pub all_named : (names : ℕ) (clauses : List PropClause) → IsTrue (names_below names clauses) → AreNamed names clauses
all_named names [] h n l m = cc
all_named names (c ∷ cs) h zero l m =
    below c (and_parts (list_all (λ (l : NameLit). nat_lt l.name names) c) (names_below names cs) h).0 m
  where
    below : (c : PropClause) → list_all (λ (l : NameLit). nat_lt l.name names) c ≡ true → IsTrue (has_name l c) → l.name < names
    below [] e f = cc
    below (k ∷ ks) e f =
        let parts = and_parts (nat_lt k.name names) (list_all (λ (l : NameLit). nat_lt l.name names) ks) e in
        ⊎_elim (λ (g : same_name l k ≡ true). let q : l.name ≡ k.name = ap (λ (x : NameLit). x.name) (same_name-true l k g) in let w = ltb-true k.name names parts.0 in omega (arith, q, w))
        (λ (g : has_name l ks ≡ true). below ks parts.1 g) (or_cases (same_name l k) (has_name l ks) f)
all_named names (c ∷ cs) h (suc n) l m = all_named names cs (and_parts (list_all (λ (l : NameLit). nat_lt l.name names) c) (names_below names cs) h).1 n l m

pub begun_known : (c : Clauses) → c.learned ≡ [] → c.starts.items ≡ [] → c.links ≡ [] → IsKnown c
begun_known c none no_starts no_links = record {
  derived = record {
    made = [];
    lawful = ap (λ (ss : List ℕ). log_clauses c.inputs.now (chains_of ss c.links)) no_starts;
    same = subst (λ (cs : List PropClause). SameClauses cs []) (sym none) (record { same_count = refl; same_literals = λ n l. refl });
  };
  lined = ap length no_starts ∙ sym (ap length no_links);
}

-- at first the clauses that are handed in are known
pub begun_clauses : (inputs : List PropClause) (c : Clauses) → c.inputs.now ≡ inputs → c.learned ≡ [] → known c ≡ inputs
begun_clauses inputs c are none = ap (λ (ls : List PropClause). c.inputs.now ++ ls) none ∙ append-nil c.inputs.now ∙ are

pub begun_sound :
    (names : ℕ) (inputs : List PropClause) (c : Clauses) (entries : List Assigned) (slots : List Slot)
    → IsTrue (names_below names inputs) → c.inputs.now ≡ inputs → c.learned ≡ [] → IsNewTrail names entries slots → IsSound (known c) entries slots
begun_sound names inputs c entries slots below are none trail = record {
  trail = trail.trail;
  implied = λ i reason h is. absurd (let e = ap length trail.empty in omega (arith, e, h));
  named = λ n l h. let w = all_named names inputs below n l (ap (λ (cs : List PropClause). has_name l (clause_at cs n)) (sym (begun_clauses inputs c are none)) ∙ h) in omega (arith, w, trail.length);
}

pub lists_of : (names n : ℕ) (clauses : List PropClause) (m : ℕ) → IsTrue (names_below names clauses) → n ≡ 2 * names → HaveLists n (clause_at clauses m)
lists_of names n clauses m below same k h = let w = all_named names clauses below m k h in omega (arith, w, same)

pub decided :
    (clauses : List PropClause) (entries entries' : List Assigned) (slots slots' : List Slot) (l : NameLit)
    → IsSound clauses entries slots → place_of slots l ≡ 0
    → IsTrail entries' slots' → entries' ≡ entries ++ record { literal = l; reason = None } ∷ []
    → slots' ≡ set slots l.name (slot_of (length entries) (record { literal = l; reason = None }))
    → IsSound clauses entries' slots'
decided clauses entries entries' slots slots' l sound free t more written =
    pushed_sound clauses entries entries' slots slots' (record { literal = l; reason = None }) sound free (λ reason is. absurd (none-some reason is)) t more written
