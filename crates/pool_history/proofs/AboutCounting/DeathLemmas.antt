-- Deaths are justified: it holds at the start, and each event of a lawful history keeps it.
use Rattle.std.proofs.Common.{◌≡◌, ℕ, ◌≤◌, Bool, true, false, not, ◌&&◌, ◌==◌, List, [], ◌∷◌, ◌++◌, length, append-nil, append_assoc, refl, ap, sym, ◌∙◌, ⊎_elim, arith}
use Rattle.std.specs.Prelude.{Option, None, Some, nat_le, nat_lt, cond, fold, find, filter, is_some, option_map, slice_get, if◌then◌else◌}
use Rattle.std.specs.List.{list_any, list_all, cons_option}
use Rattle.std.proofs.lemmas.Bool.{and_parts, and_from, or_cases, eqb-true, eq-eqb, true≢false, ltb-true, lt-ltb}
use Rattle.std.proofs.lemmas.List.{length-append}
use Rattle.std.proofs.lemmas.Option.{none-some, slice_get_within}
use Rattle.fol_base.specs.Clause.{TreeClause}
use Rattle.fol_base.specs.Subsumption.{is_among}
use Rattle.kernel_steps.specs.declared.key.Key.{Key}
use Rattle.kernel_steps.specs.declared.key.Key.TheVariants.{Replaced}
use Rattle.kernel_steps.specs.declared.step.Line.{Line}
use Rattle.laws_calculus.specs.Lifting.{among}
use Rattle.pool_history.specs.Record.{PoolRecord, Registered, Death, clauses_of, has_died, lives}
use Rattle.pool_history.specs.Counting.{refutes, spends, counts, result_comes}
use Rattle.pool_history.specs.Returning.{dies, replaced}
use Rattle.kernel_steps.specs.Lines.{clauses_named}
use Rattle.kernel_steps.specs.Moves.{Move, AreMoves, IsMove, units_of}
use Rattle.pool_history.specs.Reduction.{Lookup, clauses_used, IsRedundant, subsumers, same_numbers}
use Rattle.pool_history.specs.Laws.{is_justified, are_justified}
use Rattle.pool_history.specs.declared.options.Options.{Options}
use Rattle.pool_history.specs.declared.batch.Fate.{Fate}
use Rattle.pool_history.specs.declared.batch.Fate.TheVariants.{Kept, Dropped, Heavy}
use Rattle.pool_history.specs.declared.batch.Redundancy.{Redundancy}
use Rattle.pool_history.specs.declared.batch.Redundancy.TheVariants.{Tautology, Subsumed}
use Rattle.pool_history.proofs.AboutRecords.GrowthLemmas.{lives-before}
use Rattle.pool_history.proofs.AboutRecords.FrameLemmas.{Registers, by-if, result-registers, results-register}

-- ---- lists

pub all-weaker :
    {X : Type 0} (p q : X → Bool) → ((x : X) → p x ≡ true → q x ≡ true) → (xs : List X) → list_all p xs ≡ true → list_all q xs ≡ true
all-weaker p q weaker [] all = refl
all-weaker p q weaker (x ∷ xs) all =
    let parts = and_parts (p x) (list_all p xs) all in
    and_from (q x) (list_all q xs) (weaker x parts.0) (all-weaker p q weaker xs parts.1)

-- what a filter keeps passes what its test implies
kept-pass : (p q : ℕ → Bool) → ((n : ℕ) → p n ≡ true → q n ≡ true) → (ns : List ℕ) → list_all q (filter p ns) ≡ true
kept-pass p q weaker [] = refl
kept-pass p q weaker (n ∷ ns) = by (p n) refl (kept-pass p q weaker ns)
  where
    by : (b : Bool) → p n ≡ b → list_all q (filter p ns) ≡ true → list_all q (cond b (n ∷ filter p ns) (filter p ns)) ≡ true
    by true is rest = and_from (q n) (list_all q (filter p ns)) (weaker n is) rest
    by false is rest = rest

all-end : {X : Type 0} (p : X → Bool) (xs : List X) (x : X) → list_all p xs ≡ true → p x ≡ true → list_all p (xs ++ x ∷ []) ≡ true
all-end p [] x all last = and_from (p x) true last refl
all-end p (y ∷ ys) x all last =
    let parts = and_parts (p y) (list_all p ys) all in
    and_from (p y) (list_all p (ys ++ x ∷ [])) parts.0 (all-end p ys x parts.1 last)

all-both :
    (p q : ℕ → Bool) (xs : List ℕ) → list_all p xs ≡ true → list_all q xs ≡ true → list_all (λ x. p x && q x) xs ≡ true
all-both p q [] one other = refl
all-both p q (x ∷ xs) one other =
    let first = and_parts (p x) (list_all p xs) one in
    let second = and_parts (q x) (list_all q xs) other in
    and_from (p x && q x) (list_all (λ y. p y && q y) xs) (and_from (p x) (q x) first.0 second.0) (all-both p q xs first.1 second.1)

-- what all numbers of a list pass, those among them pass
pub among-pass : (p : ℕ → Bool) (ns ms : List ℕ) → is_among ns ms ≡ true → list_all p ms ≡ true → list_all p ns ≡ true
among-pass p [] ms are all = refl
among-pass p (n ∷ ns) ms are all =
    let parts = and_parts (list_any (λ m. n == m) ms) (is_among ns ms) are in
    and_from (p n) (list_all p ns) (one ms parts.0 all) (among-pass p ns ms parts.1 all)
  where
    one : (ms : List ℕ) → list_any (λ m. n == m) ms ≡ true → list_all p ms ≡ true → p n ≡ true
    one [] there passes = absurd (true≢false (sym there))
    one (m ∷ ms) there passes =
        let both = and_parts (p m) (list_all p ms) passes in
        ⊎_elim (λ here. ap p (eqb-true n m here) ∙ both.0) (λ later. one ms later both.1) (or_cases (n == m) (list_any (λ k. n == k) ms) there)

-- ---- one more death

justified-end :
    (earlier deaths : List Death) (d : Death)
    → are_justified earlier deaths ≡ true → is_justified (earlier ++ deaths) d ≡ true → are_justified earlier (deaths ++ d ∷ []) ≡ true
justified-end earlier [] d before last = and_from (is_justified earlier d) true (ap (λ ds. is_justified ds d) (sym (append-nil earlier)) ∙ last) refl
justified-end earlier (e ∷ es) d before last =
    let parts = and_parts (is_justified earlier e) (are_justified (earlier ++ e ∷ []) es) before in
    and_from (is_justified earlier e) (are_justified (earlier ++ e ∷ []) (es ++ d ∷ [])) parts.0
    (justified-end (earlier ++ e ∷ []) es d parts.1 (ap (λ ds. is_justified ds d) (append_assoc earlier (e ∷ []) es) ∙ last))

-- ---- records

-- the death came in the event after a record, in which the victim and the justifiers live
abbrev pub is_death_after : PoolRecord → Death → Bool
is_death_after before d = (d.event == before.events) && list_all (lives before) (d.victim ∷ d.justifiers)

-- the deaths of a record are justified, and come in the event after another one, as far as that didn't have them
pub record AreRight (before r : PoolRecord) : Type 0 where
  pub justified : are_justified [] r.deaths ≡ true
  pub more : (ds : List Death) × (r.deaths ≡ before.deaths ++ ds) × (list_all (is_death_after before) ds ≡ true)
  pub events : r.events ≡ before.events

pub none-yet : (r : PoolRecord) → are_justified [] r.deaths ≡ true → AreRight r r
none-yet r justified = record { justified = justified; more = ([], sym (append-nil r.deaths), refl); events = refl }

-- r' has the deaths and the number of events of r, and no fewer clauses
pub record Keeps (r r' : PoolRecord) : Type 0 where
  pub deaths : r'.deaths ≡ r.deaths
  pub events : r'.events ≡ r.events
  pub clauses : length r.registered ≤ length r'.registered

pub keeps-all : (r : PoolRecord) → Keeps r r
keeps-all r = record { deaths = refl; events = refl; clauses = omega arith }

pub keeps-then : (r s t : PoolRecord) → Keeps r s → Keeps s t → Keeps r t
keeps-then r s t first second = record {
  deaths = second.deaths ∙ first.deaths;
  events = second.events ∙ first.events;
  clauses = omega (arith, first.clauses, second.clauses);
}

pub keeps-right : (before r r' : PoolRecord) → Keeps r r' → AreRight before r → AreRight before r'
keeps-right before r r' keeps right = record {
  justified = ap (are_justified []) keeps.deaths ∙ right.justified;
  more = ((right.more).0, keeps.deaths ∙ (right.more).1, (right.more).2);
  events = keeps.events ∙ right.events;
}

pub registers-keeps : (r r' : PoolRecord) → Registers r r' → Keeps r r'
registers-keeps r r' registers = record {
  deaths = ap (λ (s : PoolRecord). s.deaths) registers.same;
  events = ap (λ (s : PoolRecord). s.events) registers.same;
  clauses =
      let same : length r'.registered ≡ length (r.registered ++ registers.more.0) = ap length registers.more.1 in
      omega (arith, same, length-append r.registered registers.more.0);
}

pub counts-keeps :
    (options : Options) (keys : List Key) (results : List (List Line)) (r : PoolRecord) → Keeps r (counts options keys results r)
counts-keeps options keys results r =
    let s : PoolRecord = record r { counted = r.counted ++ keys } in
    by-if (Keeps r) (nat_le options.inferences (length s.counted)) (spends options.split (find refutes results) s) (fold (result_comes options.split) s results)
    (spends-keeps (find refutes results) s (record { deaths = refl; events = refl; clauses = omega arith }))
    (keeps-then r s (fold (result_comes options.split) s results) (record { deaths = refl; events = refl; clauses = omega arith })
    (registers-keeps s (fold (result_comes options.split) s results) (results-register options.split results s)))
  where
    spends-keeps : (o : Option (List Line)) (s : PoolRecord) → Keeps r s → Keeps r (spends options.split o s)
    spends-keeps None s keeps = record { deaths = keeps.deaths; events = keeps.events; clauses = keeps.clauses }
    spends-keeps (Some lines) s keeps =
        keeps-then r s (result_comes options.split s lines) keeps
        (registers-keeps s (result_comes options.split s lines) (result-registers options.split s lines))

pub replaced-keeps : (options : Options) (victim : ℕ) (fate : Fate) (r : PoolRecord) → Keeps r (replaced options victim fate r)
replaced-keeps options victim (Kept lines results) r = counts-keeps options (Replaced victim ∷ []) (lines ∷ []) r
replaced-keeps options victim (Dropped redundancy) r = keeps-all r
replaced-keeps options victim Heavy r = keeps-all r

-- ---- a clause that dies

abbrev pub are_others : ℕ → List ℕ → Bool
are_others victim ns = list_all (λ n. not (n == victim)) ns

pub dies-right :
    (before : PoolRecord) (victim : ℕ) (justifiers : List ℕ) (r : PoolRecord)
    → list_all (λ n. nat_lt n (length before.registered)) (victim ∷ justifiers) ≡ true → list_all (lives r) (victim ∷ justifiers) ≡ true
    → are_others victim justifiers ≡ true
    → AreRight before r → AreRight before (dies victim justifiers r)
dies-right before victim justifiers r registered alive others right =
    let new : Death = record { victim = victim; event = r.events; justifiers = justifiers } in
    let none_dead : list_all (λ n. not (has_died r.deaths n)) (victim ∷ justifiers) ≡ true =
    all-weaker (lives r) (λ n. not (has_died r.deaths n)) (λ n h. (and_parts (nat_lt n (length r.registered)) (not (has_died r.deaths n)) h).1)
    (victim ∷ justifiers) alive in
    let parts = and_parts (not (has_died r.deaths victim)) (list_all (λ n. not (has_died r.deaths n)) justifiers) none_dead in
    record {
      justified =
          justified-end [] r.deaths new right.justified
          (and_from (not (has_died r.deaths victim)) (list_all (λ n. not (n == victim) && not (has_died r.deaths n)) justifiers)
          parts.0
          (all-both (λ n. not (n == victim)) (λ n. not (has_died r.deaths n)) justifiers others parts.1));
      more = (
        (right.more).0 ++ new ∷ [],
        ap (λ ds. ds ++ new ∷ []) (right.more).1 ∙ append_assoc before.deaths (right.more).0 (new ∷ []),
        all-end (is_death_after before) (right.more).0 new (right.more).2
            (and_from (r.events == before.events) (list_all (lives before) (victim ∷ justifiers)) (eq-eqb r.events before.events right.events) lived),
      );
      events = right.events;
    }
  where
    lived : list_all (lives before) (victim ∷ justifiers) ≡ true
    lived =
        all-weaker (λ n. nat_lt n (length before.registered) && lives r n) (lives before)
        (λ n h.
        let both = and_parts (nat_lt n (length before.registered)) (lives r n) h in
        lives-before before r n ((right.more).0, (right.more).1) (ltb-true n (length before.registered) both.0) both.1)
        (victim ∷ justifiers) (all-both (λ n. nat_lt n (length before.registered)) (lives r) (victim ∷ justifiers) registered alive)

-- ---- justifiers of right removals

-- the units of moves, and the clause that subsumes, are others than the victim
module _ (is_predicate : ℕ → Bool) (clauses : Lookup) (told : ℕ → Bool) (victim : ℕ) where
  abbrev beside : Lookup
  beside = among (λ n. told n && not (n == victim)) clauses

  beside-other : (n : ℕ) (c : TreeClause) → beside n ≡ Some c → not (n == victim) ≡ true
  beside-other n c there = by (told n) (not (n == victim)) there
    where
      by : (a b : Bool) → (if a && b then clauses n else None) ≡ Some c → b ≡ true
      by true true h = refl
      by true false h = absurd (none-some c h)
      by false b h = absurd (none-some c h)

  pub units-others : (c : TreeClause) (ms : List Move) → AreMoves is_predicate beside c ms → are_others victim (units_of ms) ≡ true
  units-others c [] moved = refl
  units-others c (m ∷ ms) moved = by m.by moved.0.result moved.0.step (units-others m.gives ms moved.1)
    where
      by :
          (o : Option ℕ) (d : TreeClause) → IsMove is_predicate beside c o d → are_others victim (units_of ms) ≡ true
          → are_others victim (cons_option o (units_of ms)) ≡ true
      by None d move rest = rest
      by (Some n) d move rest = and_from (not (n == victim)) (are_others victim (units_of ms)) (beside-other n move.clause move.there) rest

  pub subsumers-others :
      (c : TreeClause) (redundancy : Redundancy) → IsRedundant is_predicate beside c redundancy → are_others victim (subsumers redundancy) ≡ true
  subsumers-others c Tautology redundant = refl
  subsumers-others c (Subsumed n) redundant = and_from (not (n == victim)) true (beside-other n redundant.clause redundant.there) refl

-- what is used beside the victim
pub used-others : (victim : ℕ) (lines : List Line) → are_others victim (clauses_used victim lines) ≡ true
used-others victim lines = kept-pass (λ n. not (n == victim)) (λ n. not (n == victim)) (λ n h. h) (clauses_named lines)

pub append-others : (victim : ℕ) (ns ms : List ℕ) → are_others victim ns ≡ true → are_others victim ms ≡ true → are_others victim (ns ++ ms) ≡ true
append-others victim [] ms one other = other
append-others victim (n ∷ ns) ms one other =
    let parts = and_parts (not (n == victim)) (are_others victim ns) one in
    and_from (not (n == victim)) (are_others victim (ns ++ ms)) parts.0 (append-others victim ns ms parts.1 other)

pub same-others : (victim : ℕ) (ns ms : List ℕ) → same_numbers ns ms ≡ true → are_others victim ms ≡ true → are_others victim ns ≡ true
same-others victim ns ms same others =
    among-pass (λ n. not (n == victim)) ns ms (and_parts (is_among ns ms) (is_among ms ns) same).0 others

-- ---- registered clauses

-- a clause that is looked up is registered
pub below-count : (r : PoolRecord) (n : ℕ) → is_some (clauses_of r n) ≡ true → nat_lt n (length r.registered) ≡ true
below-count r n there = by (slice_get r.registered n) refl there
  where
    by : (o : Option Registered) → slice_get r.registered n ≡ o → is_some (option_map (λ (x : Registered). x.clause) o) ≡ true → nat_lt n (length r.registered) ≡ true
    by None none h = absurd (true≢false (sym h))
    by (Some x) here h = lt-ltb n (length r.registered) (slice_get_within r.registered n x here)
