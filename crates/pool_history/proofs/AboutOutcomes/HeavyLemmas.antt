-- What is set aside is heavy: it was so when it was set aside, and clauses stay registered and keys counted.
use Rattle.std.proofs.Common.{◌≡◌, ℕ, zero, suc, Bool, true, false, List, [], ◌∷◌, ◌++◌, length, append-nil, append_assoc, refl, ap, sym, ◌∙◌, subst, arith}
use Rattle.std.specs.Prelude.{Option, None, Some, cond, nat_le, is_none, fold, find, slice_get, option_map, All, Contains, if◌then◌else◌}
use Rattle.std.specs.List.{AllByRecursion}
use Rattle.std.proofs.lemmas.List.Elements.{All-nil, All-cons, All-append, All-weaker, recursion_from_All, Contains-append_left, Contains-append_right}
use Rattle.std.proofs.lemmas.Option.{none-some}
use Rattle.fol_base.specs.Clause.{TreeClause}
use Rattle.fol_base.specs.Selection.{SelectionMode}
use Rattle.kernel_steps.specs.Sized.{IsSizedInference}
use Rattle.kernel_steps.specs.Split.{has_number}
use Rattle.kernel_steps.specs.declared.key.Key.{Key}
use Rattle.kernel_steps.specs.declared.key.Key.TheVariants.{Para, Refl, Factor, Replaced}
use Rattle.kernel_steps.specs.declared.step.Line.{Line}
use Rattle.literal_selection.specs.Mode.{mode_of}
use Rattle.laws_calculus.specs.Lifting.{among}
use Rattle.sat_core.specs.declared.answer.Chain as log
use Rattle.pool_history.specs.Record.{PoolRecord, Registered, GivenJob, SolverJob, clauses_of, given_job, without_job, nothing_registered}
use Rattle.pool_history.specs.Claiming.{next_given, given_out, claimed_by}
use Rattle.pool_history.specs.Counting.{is_heavy, keys_of, lines_of_entries, refutes, spends, counts, result_comes}
use Rattle.pool_history.specs.Returning.{dies, replaced, removed, takes_effect, proposed, becomes_active, heavy_entries, sets_aside, worked, returns_to}
use Rattle.pool_history.specs.Solving.{modelled_by, refuted_by}
use Rattle.pool_history.specs.Batches.{is_told, IsRightFate, IsRightWork}
use Rattle.pool_history.specs.Replay.{after, start}
use Rattle.pool_history.specs.Lawful.{IsAllowed, IsLawfulFrom}
use Rattle.pool_history.specs.Laws.{IsHeavyAmong, SetAsideAreHeavy}
use Rattle.pool_history.specs.declared.options.Options.{Options}
use Rattle.pool_history.specs.declared.batch.Batch.{Batch}
use Rattle.pool_history.specs.declared.batch.Entry.{Entry}
use Rattle.pool_history.specs.declared.batch.Fate.{Fate}
use Rattle.pool_history.specs.declared.batch.Fate.TheVariants.{Kept, Dropped, Heavy}
use Rattle.pool_history.specs.declared.batch.Removal.{Removal}
use Rattle.pool_history.specs.declared.batch.Work.{Work}
use Rattle.pool_history.specs.declared.batch.Work.TheVariants.{Gone, Met}
use Rattle.pool_history.specs.declared.event.Event.{Event}
use Rattle.pool_history.specs.declared.event.Event.TheVariants.{Claim, Return, Stale, Void, ClaimSolve, ReturnModel, ReturnRefuted, Abandon}
use Rattle.pool_history.proofs.AboutRecords.FrameLemmas.{Registers, by-if, inputs-register, result-registers, results-register}
use Rattle.pool_history.proofs.AboutRecords.GrowthLemmas.{more-then}

-- ---- the counted list grows, and nothing is set aside

record Tallies (r s : PoolRecord) : Type 0 where
  pub aside : s.set_aside ≡ r.set_aside
  pub counted : (ks : List Key) × (s.counted ≡ r.counted ++ ks)
  pub clauses : (cs : List Registered) × (s.registered ≡ r.registered ++ cs)

tallies-all : (r : PoolRecord) → Tallies r r
tallies-all r = record { aside = refl; counted = ([], sym (append-nil r.counted)); clauses = ([], sym (append-nil r.registered)) }

tallies-then : (r s t : PoolRecord) → Tallies r s → Tallies s t → Tallies r t
tallies-then r s t first second = record {
  aside = second.aside ∙ first.aside;
  counted = more-then r.counted s.counted t.counted first.counted second.counted;
  clauses = more-then r.registered s.registered t.registered first.clauses second.clauses;
}

registers-tallies : (r s : PoolRecord) → Registers r s → Tallies r s
registers-tallies r s is = record {
  aside = ap (λ (t : PoolRecord). t.set_aside) is.same;
  counted = ([], ap (λ (t : PoolRecord). t.counted) is.same ∙ sym (append-nil r.counted));
  clauses = is.more;
}

module _ (options : Options) where
  abbrev with_keys : List Key → PoolRecord → PoolRecord
  with_keys keys r = record r { counted = r.counted ++ keys }

  with_keys-tallies : (keys : List Key) (r : PoolRecord) → Tallies r (with_keys keys r)
  with_keys-tallies keys r = record { aside = refl; counted = (keys, refl); clauses = ([], sym (append-nil r.registered)) }

  spends-tallies : (o : Option (List Line)) (r s : PoolRecord) → Tallies r s → Tallies r (spends options.split o s)
  spends-tallies None r s so_far = record { aside = so_far.aside; counted = so_far.counted; clauses = so_far.clauses }
  spends-tallies (Some lines) r s so_far =
      tallies-then r s (result_comes options.split s lines) so_far (registers-tallies s (result_comes options.split s lines) (result-registers options.split s lines))

  -- from the moment on in which the keys are counted
  counts-tallies : (keys : List Key) (results : List (List Line)) (r : PoolRecord) → Tallies (with_keys keys r) (counts options keys results r)
  counts-tallies keys results r =
      by-if (Tallies (with_keys keys r)) (nat_le options.inferences (length (with_keys keys r).counted))
      (spends options.split (find refutes results) (with_keys keys r)) (fold (result_comes options.split) (with_keys keys r) results)
      (spends-tallies (find refutes results) (with_keys keys r) (with_keys keys r) (tallies-all (with_keys keys r)))
      (registers-tallies (with_keys keys r) (fold (result_comes options.split) (with_keys keys r) results)
      (results-register options.split results (with_keys keys r)))

  dies-tallies : (victim : ℕ) (justifiers : List ℕ) (r : PoolRecord) → Tallies r (dies victim justifiers r)
  dies-tallies victim justifiers r = record { aside = refl; counted = ([], sym (append-nil r.counted)); clauses = ([], sym (append-nil r.registered)) }

  replaced-tallies : (victim : ℕ) (fate : Fate) (r : PoolRecord) → Tallies r (replaced options victim fate r)
  replaced-tallies victim (Kept lines results) r =
      tallies-then r (with_keys (Replaced victim ∷ []) r) (replaced options victim (Kept lines results) r) (with_keys-tallies (Replaced victim ∷ []) r)
      (counts-tallies (Replaced victim ∷ []) (lines ∷ []) r)
  replaced-tallies victim (Dropped redundancy) r = tallies-all r
  replaced-tallies victim Heavy r = tallies-all r

  removed-tallies : (m : Removal) (r : PoolRecord) → Tallies r (removed options m r)
  removed-tallies m r =
      tallies-then r (dies m.victim m.justifiers r) (removed options m r) (dies-tallies m.victim m.justifiers r)
      (replaced-tallies m.victim m.fate (dies m.victim m.justifiers r))

  proposed-tallies : (ms : List Removal) (r : PoolRecord) → Tallies r (fold (proposed options) r ms)
  proposed-tallies [] r = tallies-all r
  proposed-tallies (m ∷ ms) r =
      tallies-then r (proposed options r m) (fold (proposed options) (proposed options r m) ms)
      (by-if (Tallies r) (takes_effect r m) (removed options m r) r (removed-tallies m r) (tallies-all r))
      (proposed-tallies ms (proposed options r m))

-- ---- a heavy inference stays one

module _ (is_predicate : ℕ → Bool) (mode : SelectionMode) (few many : ℕ → Option TreeClause) (more : (n : ℕ) (c : TreeClause) → few n ≡ Some c → many n ≡ Some c) where
  heavy-more : (key : Key) (c : TreeClause) (heavy : Bool) → IsSizedInference is_predicate mode few key c heavy → IsSizedInference is_predicate mode many key c heavy
  heavy-more (Para first i s second j z place) c heavy is = record {
    first_clause = is.first_clause;
    first_there = more first is.first_clause is.first_there;
    second_clause = is.second_clause;
    second_there = more second is.second_clause is.second_there;
    infers = is.infers;
  }
  heavy-more (Refl n i) c heavy is = record { clause = is.clause; there = more n is.clause is.there; infers = is.infers }
  heavy-more (Factor n i s j z) c heavy is = record { clause = is.clause; there = more n is.clause is.there; infers = is.infers }
  heavy-more (Replaced n) c heavy is = is

there-more : (xs ys : List Registered) (n : ℕ) (x : Registered) → slice_get xs n ≡ Some x → slice_get (xs ++ ys) n ≡ Some x
there-more [] ys n x there = absurd (none-some x there)
there-more (y ∷ xs) ys zero x there = there
there-more (y ∷ xs) ys (suc n) x there = there-more xs ys n x there

pub clause-more : (r s : PoolRecord) → ((cs : List Registered) × (s.registered ≡ r.registered ++ cs)) → (n : ℕ) (c : TreeClause) → clauses_of r n ≡ Some c → clauses_of s n ≡ Some c
clause-more r s clauses n c there = by (slice_get r.registered n) refl there
  where
    by : (o : Option Registered) → slice_get r.registered n ≡ o → option_map (λ (x : Registered). x.clause) o ≡ Some c → clauses_of s n ≡ Some c
    by None is none = absurd (none-some c none)
    by (Some x) is some =
        ap (λ xs. option_map (λ (y : Registered). y.clause) (slice_get xs n)) clauses.1
        ∙ ap (λ (o : Option Registered). option_map (λ (y : Registered). y.clause) o) (there-more r.registered clauses.0 n x is) ∙ some

contains-more : (xs ys : List Key) (k : Key) → Contains xs k → Contains (xs ++ ys) k
contains-more xs ys k there = Contains-append_left xs ys k there

among-more : (is_member : ℕ → Bool) (clauses : ℕ → Option TreeClause) (n : ℕ) (c : TreeClause) → among is_member clauses n ≡ Some c → clauses n ≡ Some c
among-more is_member clauses n c there = by (is_member n) there
  where
    by : (b : Bool) → (if b then clauses n else None) ≡ Some c → clauses n ≡ Some c
    by true h = h
    by false h = absurd (none-some c h)

-- ---- histories

module _ (is_predicate : ℕ → Bool) (options : Options) where
  abbrev Aside : PoolRecord → Key → Type 0
  Aside r key = Contains r.counted key × IsHeavyAmong is_predicate options r key

  abbrev AreHeavy : PoolRecord → Type 0
  AreHeavy r = All (Aside r) r.set_aside

  aside-more : (r s : PoolRecord) → Tallies r s → (key : Key) → Aside r key → Aside s key
  aside-more r s so_far key is = (
    subst (λ ks. Contains ks key) (sym so_far.counted.1) (contains-more r.counted so_far.counted.0 key is.0),
    ((is.1).0, heavy-more is_predicate (mode_of options.select) (clauses_of r) (clauses_of s) (clause-more r s so_far.clauses) key (is.1).0 true (is.1).1),
  )

  heavy-tallies : (r s : PoolRecord) → Tallies r s → AreHeavy r → AreHeavy s
  heavy-tallies r s so_far heavy =
      subst (All (Aside s)) (sym so_far.aside) (All-weaker (Aside r) (Aside s) (aside-more r s so_far) r.set_aside heavy)

  -- the heavy entries of a batch
  entries-heavy :
      (r : PoolRecord) (j : GivenJob) (entries : List Entry)
      → AllByRecursion (λ (e : Entry). IsRightFate is_predicate options (clauses_of r) j e.key e.fate) entries
      → (before : List Key) → All (λ key. Contains (before ++ keys_of entries) key × IsHeavyAmong is_predicate options r key) (keys_of (heavy_entries entries))
  entries-heavy r j [] right before = All-nil (λ key. Contains (before ++ []) key × IsHeavyAmong is_predicate options r key)
  entries-heavy r j (e ∷ es) right before =
      by e.fate right.0
      (subst (λ ks. All (λ key. Contains ks key × IsHeavyAmong is_predicate options r key) (keys_of (heavy_entries es)))
      (append_assoc before (e.key ∷ []) (keys_of es)) (entries-heavy r j es right.1 (before ++ e.key ∷ [])))
    where
      there : Contains (before ++ e.key ∷ keys_of es) e.key
      there = Contains-append_right before (e.key ∷ keys_of es) e.key (0, omega arith, refl)

      by :
          (fate : Fate) → IsRightFate is_predicate options (clauses_of r) j e.key fate
          → All (λ key. Contains (before ++ e.key ∷ keys_of es) key × IsHeavyAmong is_predicate options r key) (keys_of (heavy_entries es))
          → All (λ key. Contains (before ++ e.key ∷ keys_of es) key × IsHeavyAmong is_predicate options r key)
          (keys_of (cond (is_heavy fate) (e ∷ heavy_entries es) (heavy_entries es)))
      by (Kept lines results) is rest = rest
      by (Dropped redundancy) is rest = rest
      by Heavy is rest =
          All-cons (λ key. Contains (before ++ e.key ∷ keys_of es) key × IsHeavyAmong is_predicate options r key) e.key (keys_of (heavy_entries es))
          (there, (is.0, heavy-more is_predicate (mode_of options.select) (among (is_told j) (clauses_of r)) (clauses_of r) (among-more (is_told j) (clauses_of r)) e.key is.0 true is.1)) rest

  abbrev without : ℕ → PoolRecord → PoolRecord
  without job r = record r { given = without_job job r.given }

  worked-heavy :
      (job : ℕ) (j : GivenJob) (work : Work) (r : PoolRecord)
      → IsRightWork is_predicate options (clauses_of r) j work → AreHeavy r → AreHeavy (worked options j.number work (without job r))
  worked-heavy job j (Gone m) r right heavy = heavy-tallies (without job r) (worked options j.number (Gone m) (without job r)) (removed-tallies options m (without job r)) heavy
  worked-heavy job j (Met entries removals) r right heavy =
      let mid : PoolRecord = sets_aside entries (becomes_active j.number (without job r)) in
      let counted : PoolRecord = counts options (keys_of entries) (lines_of_entries entries) mid in
      heavy-tallies (with_keys options (keys_of entries) mid) (fold (proposed options) counted removals)
      (tallies-then (with_keys options (keys_of entries) mid) counted (fold (proposed options) counted removals)
      (counts-tallies options (keys_of entries) (lines_of_entries entries) mid) (proposed-tallies options removals counted))
      (All-append (Aside (with_keys options (keys_of entries) mid)) r.set_aside (keys_of (heavy_entries entries))
      (All-weaker (Aside r) (Aside (with_keys options (keys_of entries) mid))
      (λ key is. (contains-more r.counted (keys_of entries) key is.0, is.1)) r.set_aside heavy)
      (entries-heavy r j entries
      (recursion_from_All (λ (e : Entry). IsRightFate is_predicate options (clauses_of r) j e.key e.fate) entries right.right_entries) r.counted))

  returned-heavy :
      (batch : Batch) (o : Option GivenJob) (j : GivenJob) (r : PoolRecord)
      → o ≡ Some j → IsRightWork is_predicate options (clauses_of r) j batch.work → AreHeavy r → AreHeavy (returns_to options batch o r)
  returned-heavy batch o j r out right heavy =
      subst (λ p. AreHeavy (returns_to options batch p r)) (sym out)
      (by-if AreHeavy (is_none r.ended) (worked options j.number batch.work (without batch.job r)) (becomes_active j.number (without batch.job r))
      (worked-heavy batch.job j batch.work r right heavy) heavy)

  claimed-heavy : (job : ℕ) (o : Option ℕ) (r : PoolRecord) → AreHeavy r → AreHeavy (claimed_by options job o r)
  claimed-heavy job None r heavy = heavy
  claimed-heavy job (Some n) r heavy =
      by-if (λ s. AreHeavy (given_out options job n s)) (has_number n r.positions) r (record r { positions = r.positions ++ n ∷ [] }) heavy heavy

  modelled-heavy : (o : Option SolverJob) (truths : List Bool) (r : PoolRecord) → AreHeavy r → AreHeavy (modelled_by o truths r)
  modelled-heavy None truths r heavy = heavy
  modelled-heavy (Some s) truths r heavy = heavy

  refuted-heavy : (o : Option SolverJob) (chains : List log.Chain) (r : PoolRecord) → AreHeavy r → AreHeavy (refuted_by o chains r)
  refuted-heavy None chains r heavy = heavy
  refuted-heavy (Some s) chains r heavy = by-if AreHeavy (is_none r.ended) _ _ heavy heavy

  after-heavy : (r : PoolRecord) (e : Event) → IsAllowed is_predicate options r e → AreHeavy r → AreHeavy (after options r e)
  after-heavy r (Claim job) allowed heavy = claimed-heavy job (next_given r) r heavy
  after-heavy r (Return batch) allowed heavy =
      returned-heavy batch (given_job r batch.job) allowed.given r allowed.out (allowed.says).2 heavy
  after-heavy r (Stale job justifier) allowed heavy = heavy
  after-heavy r (Void job) allowed heavy = heavy
  after-heavy r (ClaimSolve job) allowed heavy = heavy
  after-heavy r (ReturnModel job truths) allowed heavy = modelled-heavy r.solver truths r heavy
  after-heavy r (ReturnRefuted job chains) allowed heavy = refuted-heavy r.solver chains r heavy
  after-heavy r (Abandon job) allowed heavy = heavy

  history-heavy : (es : List Event) (r : PoolRecord) → IsLawfulFrom is_predicate options r es → AreHeavy r → AreHeavy (fold (after options) r es)
  history-heavy [] r lawful heavy = heavy
  history-heavy (e ∷ es) r lawful heavy = history-heavy es (after options r e) lawful.1 (after-heavy r e lawful.0 heavy)

pub set_aside_are_heavy : SetAsideAreHeavy
set_aside_are_heavy is_predicate origin history lawful =
    history-heavy is_predicate origin.options history (start origin) lawful
    (heavy-tallies is_predicate origin.options nothing_registered (start origin)
    (registers-tallies nothing_registered (start origin) (inputs-register origin.options.split 0 origin.inputs nothing_registered))
    (All-nil (Aside is_predicate origin.options nothing_registered)))
