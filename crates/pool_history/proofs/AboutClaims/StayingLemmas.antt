-- A job on a given clause stays out until an event ends it; through events of other jobs it stays as it was told. So a batch that is right for it stays
-- right: the told clauses stay.
use Rattle.std.proofs.Common.{◌≡◌, ◌⊎◌, ℕ, ◌≤◌, Bool, true, false, not, ◌==◌, List, [], ◌∷◌, ◌++◌, map, length, refl, ap, sym, ◌∙◌, subst, inl, inr}
use Rattle.std.specs.Prelude.{Option, None, Some, cond, is_none, nat_lt, find, fold, if◌then◌else◌}
use Rattle.std.specs.List.{list_any, list_all}
use Rattle.std.proofs.lemmas.Bool.{and_parts, or_parts, eqb-true, eq-eqb, true≢false}
use Rattle.std.proofs.lemmas.List.Elements.{All-weaker}
use Rattle.std.proofs.lemmas.Option.{none-some, same_Some}
use Rattle.fol_base.specs.Clause.{TreeClause}
use Rattle.fol_base.specs.Literal.{clause_of}
use Rattle.kernel_steps.specs.Inference.{IsIrreducible}
use Rattle.kernel_steps.specs.Moves.{AreMoves, end_of_moves}
use Rattle.kernel_steps.specs.Named.{IsInference}
use Rattle.kernel_steps.specs.Sized.{IsSizedInference}
use Rattle.kernel_steps.specs.Split.{has_number}
use Rattle.kernel_steps.specs.declared.key.Key.{Key}
use Rattle.kernel_steps.specs.declared.step.Line.{Line}
use Rattle.literal_selection.specs.Mode.{mode_of}
use Rattle.laws_calculus.specs.Lifting.{among}
use Rattle.sat_core.specs.declared.answer.Chain as log
use Rattle.pool_history.specs.Record.{PoolRecord, GivenJob, SolverJob, clauses_of, clause_numbered, given_job, without_job}
use Rattle.pool_history.specs.Claiming.{new_job, next_given, given_out, claimed_by}
use Rattle.pool_history.specs.Events.{job_of}
use Rattle.fol_base.specs.WellFormed.{SymbolUse}
use Rattle.pool_history.specs.Inputs.{IsUseOf}
use Rattle.pool_history.specs.Lawful.{IsGivenOut}
use Rattle.pool_history.specs.Laws.{ends_job, BatchesStayRight, GivenJobsStayOut}
use Rattle.pool_history.specs.Reduction.{Lookup, AreLinesFrom, IsRedundant}
use Rattle.pool_history.specs.Replay.{retold, after, start, replay}
use Rattle.pool_history.specs.Returning.{becomes_active, worked, returns_to}
use Rattle.pool_history.specs.Solving.{modelled_by, refuted_by}
use Rattle.pool_history.specs.Batches.{is_told, is_told_beside, MeetsAll, RemovesAll, IsReducedTo, IsRightlyKept, IsRightlyDropped, IsRightFate, IsRightlyReplaced, IsRightlyRemoved, IsRightRemovalBy, IsRightRemoval, IsGoneFor, IsRightMeeting, IsRightWork}
use Rattle.pool_history.specs.declared.options.Options.{Options}
use Rattle.pool_history.specs.declared.batch.Batch.{Batch}
use Rattle.pool_history.specs.declared.batch.Entry.{Entry}
use Rattle.pool_history.specs.declared.batch.Fate.{Fate}
use Rattle.pool_history.specs.declared.batch.Fate.TheVariants.{Kept, Dropped, Heavy}
use Rattle.pool_history.specs.declared.batch.Redundancy.{Redundancy}
use Rattle.pool_history.specs.declared.batch.Removal.{Removal}
use Rattle.pool_history.specs.declared.batch.Work.{Work}
use Rattle.pool_history.specs.declared.batch.Work.TheVariants.{Gone, Met}
use Rattle.pool_history.specs.declared.event.Event.{Event}
use Rattle.pool_history.specs.declared.event.Event.TheVariants.{Claim, Return, Stale, Void, ClaimSolve, ReturnModel, ReturnRefuted, Abandon}
use Rattle.pool_history.proofs.AboutCounting.CountedRecords.{number-passes}
use Rattle.pool_history.proofs.AboutRecords.FrameLemmas.{by-if}
use Rattle.pool_history.proofs.AboutOutcomes.HeavyLemmas.{clause-more}
use Rattle.pool_history.proofs.AboutClaims.HistoryLemmas.{later-append}
use Rattle.pool_history.proofs.AboutRecords.NewsLemmas.{clauses-more, numbered-there, worked-given}
use Rattle.pool_history.proofs.AboutRecords.PlaceLemmas.{Placed, replay-placed}

-- ---- the job

abbrev found : ℕ → List GivenJob → Option GivenJob
found job js = find (λ (j : GivenJob). j.job == job) js

-- of two jobs that differ a number is one
not_both : (n job other : ℕ) → (other == job) ≡ false → (n == job) ≡ true → (n == other) ≡ true → ⊥
not_both n job other differ one two =
    true≢false (sym (eq-eqb other job (sym (eqb-true n other two) ∙ eqb-true n job one)) ∙ differ)

found-end : (job : ℕ) (js : List GivenJob) (j k : GivenJob) → found job js ≡ Some j → found job (js ++ k ∷ []) ≡ Some j
found-end job [] j k is = absurd (none-some j is)
found-end job (i ∷ js) j k is = by (i.job == job) is (found-end job js j k)
  where
    by :
        (b : Bool) → cond b (Some i) (found job js) ≡ Some j → (found job js ≡ Some j → found job (js ++ k ∷ []) ≡ Some j)
        → cond b (Some i) (found job (js ++ k ∷ [])) ≡ Some j
    by true here rest = here
    by false later rest = rest later

found-without :
    (job other : ℕ) (js : List GivenJob) (j : GivenJob)
    → (other == job) ≡ false → found job js ≡ Some j → found job (without_job other js) ≡ Some j
found-without job other [] j differ is = is
found-without job other (i ∷ js) j differ is = by (i.job == job) refl (i.job == other) refl is (found-without job other js j differ)
  where
    by :
        (b : Bool) → (i.job == job) ≡ b → (c : Bool) → (i.job == other) ≡ c
        → cond b (Some i) (found job js) ≡ Some j → (found job js ≡ Some j → found job (without_job other js) ≡ Some j)
        → found job (cond (not c) (i ∷ without_job other js) (without_job other js)) ≡ Some j
    by true one true two here rest = absurd (not_both i.job job other differ one two)
    by true one false two here rest = ap (λ b. cond b (Some i) (found job (without_job other js))) one ∙ here
    by false one true two later rest = rest later
    by false one false two later rest = ap (λ b. cond b (Some i) (found job (without_job other js))) one ∙ rest later

found-retold :
    (job other : ℕ) (r : PoolRecord) (js : List GivenJob) (j : GivenJob)
    → (other == job) ≡ false → found job js ≡ Some j
    → found job (map (λ (k : GivenJob). if k.job == other then retold r k else k) js) ≡ Some j
found-retold job other r [] j differ is = is
found-retold job other r (i ∷ js) j differ is = by (i.job == job) refl (i.job == other) refl is (found-retold job other r js j differ)
  where
    others : List GivenJob
    others = map (λ (k : GivenJob). if k.job == other then retold r k else k) js

    by :
        (b : Bool) → (i.job == job) ≡ b → (c : Bool) → (i.job == other) ≡ c
        → cond b (Some i) (found job js) ≡ Some j → (found job js ≡ Some j → found job others ≡ Some j)
        → found job ((if c then retold r i else i) ∷ others) ≡ Some j
    by true one true two here rest = absurd (not_both i.job job other differ one two)
    by true one false two here rest = ap (λ b. cond b (Some i) (found job others)) one ∙ here
    by false one true two later rest = ap (λ b. cond b (Some (retold r i)) (found job others)) one ∙ rest later
    by false one false two later rest = ap (λ b. cond b (Some i) (found job others)) one ∙ rest later

found-retold-own :
    (job : ℕ) (r : PoolRecord) (js : List GivenJob) (j : GivenJob)
    → found job js ≡ Some j → found job (map (λ (k : GivenJob). if k.job == job then retold r k else k) js) ≡ Some (retold r j)
found-retold-own job r [] j is = absurd (none-some j is)
found-retold-own job r (i ∷ js) j is = by (i.job == job) refl is (found-retold-own job r js j)
  where
    others : List GivenJob
    others = map (λ (k : GivenJob). if k.job == job then retold r k else k) js

    by :
        (b : Bool) → (i.job == job) ≡ b
        → cond b (Some i) (found job js) ≡ Some j → (found job js ≡ Some j → found job others ≡ Some (retold r j))
        → found job ((if b then retold r i else i) ∷ others) ≡ Some (retold r j)
    by true one here rest =
        ap (λ b. cond b (Some (retold r i)) (found job others)) one ∙ ap (λ (k : GivenJob). let o : Option GivenJob = Some (retold r k) in o) (same_Some i j here)
    by false one later rest = ap (λ b. cond b (Some i) (found job others)) one ∙ rest later

module _ (options : Options) (job : ℕ) (j : GivenJob) where
  abbrev Out : PoolRecord → Type 0
  Out r = given_job r job ≡ Some j

  claimed-out : (other : ℕ) (o : Option ℕ) (r : PoolRecord) → Out r → Out (claimed_by options other o r)
  claimed-out other None r out = out
  claimed-out other (Some n) r out =
      let s : PoolRecord = record r { positions = r.positions ++ n ∷ [] } in
      by-if (λ t. Out (given_out options other n t)) (has_number n r.positions) r s
      (found-end job r.given j (new_job options other n r) out) (found-end job r.given j (new_job options other n s) out)

  without-out : (other : ℕ) (r s : PoolRecord) → (other == job) ≡ false → s.given ≡ without_job other r.given → Out r → Out s
  without-out other r s differ given out = ap (found job) given ∙ found-without job other r.given j differ out

  returned-out : (batch : Batch) (o : Option GivenJob) (r : PoolRecord) → (batch.job == job) ≡ false → Out r → Out (returns_to options batch o r)
  returned-out batch None r differ out = out
  returned-out batch (Some k) r differ out =
      let s : PoolRecord = record r { given = without_job batch.job r.given } in
      by-if Out (is_none r.ended) (worked options k.number batch.work s) (becomes_active k.number s)
      (without-out batch.job r (worked options k.number batch.work s) differ (worked-given options batch.job k.number batch.work r) out)
      (without-out batch.job r (becomes_active k.number s) differ refl out)

  modelled-out : (o : Option SolverJob) (truths : List Bool) (r : PoolRecord) → Out r → Out (modelled_by o truths r)
  modelled-out None truths r out = out
  modelled-out (Some s) truths r out = out

  refuted-out : (o : Option SolverJob) (chains : List log.Chain) (r : PoolRecord) → Out r → Out (refuted_by o chains r)
  refuted-out None chains r out = out
  refuted-out (Some s) chains r out = by-if Out (is_none r.ended) _ _ out out

  after-out : (r : PoolRecord) (e : Event) → (job_of e == job) ≡ false → Out r → Out (after options r e)
  after-out r (Claim other) differ out = claimed-out other (next_given r) r out
  after-out r (Return batch) differ out = returned-out batch (given_job r batch.job) r differ out
  after-out r (Stale other justifier) differ out = found-retold job other r r.given j differ out
  after-out r (Void other) differ out = without-out other r (after options r (Void other)) differ refl out
  after-out r (ClaimSolve other) differ out = out
  after-out r (ReturnModel other truths) differ out = modelled-out r.solver truths r out
  after-out r (ReturnRefuted other chains) differ out = refuted-out r.solver chains r out
  after-out r (Abandon other) differ out = without-out other r (after options r (Abandon other)) differ refl out

  later-out :
      (es : List Event) (r : PoolRecord) → list_any (λ e. job_of e == job) es ≡ false → Out r → Out (fold (after options) r es)
  later-out [] r others out = out
  later-out (e ∷ es) r others out =
      let parts = or_parts (job_of e == job) (list_any (λ d. job_of d == job) es) others in
      later-out es (after options r e) parts.1 (after-out r e parts.0 out)

-- ---- a job that no event ends

module _ (options : Options) (job : ℕ) (j : GivenJob) where
  -- it is out on its clause and with its limit, whatever it was told since
  abbrev OutStill : PoolRecord → Type 0
  OutStill r = IsGivenOut r job (λ k. (k.number ≡ j.number) × (k.left ≡ j.left))

  still : (r : PoolRecord) (k : GivenJob) → given_job r job ≡ Some k → k.number ≡ j.number → k.left ≡ j.left → OutStill r
  still r k out number left = record { given = k; out = out; says = (number, left) }

  retold-still : (other : ℕ) (r s : PoolRecord) → s.given ≡ map (λ (k : GivenJob). if k.job == other then retold r k else k) r.given → OutStill r → OutStill s
  retold-still other r s given out = by (other == job) refl
    where
      by : (b : Bool) → (other == job) ≡ b → OutStill s
      by true own =
          still s (retold r out.given)
          (ap (found job) given
          ∙ ap (λ n. found job (map (λ (k : GivenJob). if k.job == n then retold r k else k) r.given)) (eqb-true other job own)
          ∙ found-retold-own job r r.given out.given out.out)
          (out.says).0 (out.says).1
      by false differ =
          still s out.given (ap (found job) given ∙ found-retold job other r r.given out.given differ out.out) (out.says).0 (out.says).1

  after-still : (r : PoolRecord) (e : Event) → ends_job job e ≡ false → OutStill r → OutStill (after options r e)
  after-still r (Claim other) none out =
      still (after options r (Claim other)) out.given (claimed-out options job out.given other (next_given r) r out.out) (out.says).0 (out.says).1
  after-still r (Return batch) none out =
      still (after options r (Return batch)) out.given (returned-out options job out.given batch (given_job r batch.job) r none out.out) (out.says).0 (out.says).1
  after-still r (Stale other justifier) none out = retold-still other r (after options r (Stale other justifier)) refl out
  after-still r (Void other) none out =
      still (after options r (Void other)) out.given (without-out options job out.given other r (after options r (Void other)) none refl out.out) (out.says).0 (out.says).1
  after-still r (ClaimSolve other) none out = still (after options r (ClaimSolve other)) out.given out.out (out.says).0 (out.says).1
  after-still r (ReturnModel other truths) none out =
      still (after options r (ReturnModel other truths)) out.given (modelled-out options job out.given r.solver truths r out.out) (out.says).0 (out.says).1
  after-still r (ReturnRefuted other chains) none out =
      still (after options r (ReturnRefuted other chains)) out.given (refuted-out options job out.given r.solver chains r out.out) (out.says).0 (out.says).1
  after-still r (Abandon other) none out =
      still (after options r (Abandon other)) out.given (without-out options job out.given other r (after options r (Abandon other)) none refl out.out) (out.says).0 (out.says).1

  later-still : (es : List Event) (r : PoolRecord) → list_any (ends_job job) es ≡ false → OutStill r → OutStill (fold (after options) r es)
  later-still [] r none out = out
  later-still (e ∷ es) r none out =
      let parts = or_parts (ends_job job e) (list_any (ends_job job) es) none in
      later-still es (after options r e) parts.1 (after-still r e parts.0 out)

pub given_jobs_stay_out : GivenJobsStayOut
given_jobs_stay_out origin history later job j out none =
    subst (OutStill origin.options job j) (sym (later-append origin.options history later (start origin)))
    (later-still origin.options job j later (replay origin history) none (still origin.options job j (replay origin history) j out refl refl))

-- ---- the told clauses

-- what holds of all jobs that are out holds of one
job-passes : (p : GivenJob → Bool) (job : ℕ) (js : List GivenJob) (j : GivenJob) → list_all p js ≡ true → found job js ≡ Some j → p j ≡ true
job-passes p job [] j all is = absurd (none-some j is)
job-passes p job (i ∷ js) j all is =
    let parts = and_parts (p i) (list_all p js) all in
    by (i.job == job) is parts.0 (job-passes p job js j parts.1)
  where
    by : (b : Bool) → cond b (Some i) (found job js) ≡ Some j → p i ≡ true → (found job js ≡ Some j → p j ≡ true) → p j ≡ true
    by true here passes rest = ap p (sym (same_Some i j here)) ∙ passes
    by false later passes rest = rest later

-- they are registered
told-below :
    (r : PoolRecord) (job : ℕ) (j : GivenJob) → Placed r → given_job r job ≡ Some j
    → (n : ℕ) → is_told j n ≡ true → nat_lt n (length r.registered) ≡ true
told-below r job j placed out n told =
    let own = job-passes _ job r.given j placed.told out in
    number-passes (λ k. nat_lt k (length r.registered)) n r.positions
    (number-passes (λ k. has_number k r.positions) n j.told told
    (and_parts (has_number j.number r.positions) (list_all (λ k. has_number k r.positions) j.told) own).1)
    placed.registered

-- ---- a batch that is right by clauses is right by others, where the told ones are the same

module _ (is_predicate : ℕ → Bool) (options : Options) (clauses others : Lookup) (j : GivenJob) (same : (n : ℕ) → is_told j n ≡ true → clauses n ≡ others n) where
  same-among : (test : ℕ → Bool) → ((n : ℕ) → test n ≡ true → is_told j n ≡ true) → among test clauses ≡ among test others
  same-among test told = λ i n. by n (test n) (told n) i
    where
      by : (n : ℕ) (b : Bool) → (b ≡ true → is_told j n ≡ true) → (if b then clauses n else None) ≡ (if b then others n else None)
      by n true told = same n (told refl)
      by n false told = refl

  told : among (is_told j) clauses ≡ among (is_told j) others
  told = same-among (is_told j) (λ n is. is)

  beside : (victim : ℕ) → among (is_told_beside j victim) clauses ≡ among (is_told_beside j victim) others
  beside victim = same-among (is_told_beside j victim) (λ n is. (and_parts (is_told j n) (not (n == victim)) is).0)

  -- irreducible by the clauses of a lookup
  abbrev IsReducedBy : TreeClause → Lookup → Type 0
  IsReducedBy c by = IsIrreducible is_predicate (λ (d : TreeClause). (n : ℕ) × (by n ≡ Some d)) c

  same-kept :
      (key : Key) (lines : List Line) (results : List TreeClause)
      → IsRightlyKept is_predicate options clauses j key lines results → IsRightlyKept is_predicate options others j key lines results
  same-kept key lines results right = record {
    first = right.first;
    others = right.others;
    begins = right.begins;
    of_key = right.of_key;
    inferred =
        subst (λ (by : Lookup). IsSizedInference is_predicate (mode_of options.select) by key (clause_of right.first.clause) false) told right.inferred;
    are_lines = subst (λ (by : Lookup). AreLinesFrom is_predicate by lines) told right.are_lines;
    moves = right.moves;
    result = right.result;
    reduced = subst (λ (by : Lookup). IsReducedTo is_predicate by (clause_of right.first.clause) right.moves lines right.result) told right.reduced;
    irreducible = subst (IsReducedBy right.result) told right.irreducible;
    given = right.given;
  }

  same-dropped :
      (key : Key) (redundancy : Redundancy)
      → IsRightlyDropped is_predicate options clauses j key redundancy → IsRightlyDropped is_predicate options others j key redundancy
  same-dropped key redundancy right = record {
    conclusion = right.conclusion;
    inferred = subst (λ (by : Lookup). IsSizedInference is_predicate (mode_of options.select) by key right.conclusion false) told right.inferred;
    moves = right.moves;
    moved = subst (λ (by : Lookup). AreMoves is_predicate by right.conclusion right.moves) told right.moved;
    redundant = subst (λ (by : Lookup). IsRedundant is_predicate by (end_of_moves right.conclusion right.moves) redundancy) told right.redundant;
  }

  same-fate : (key : Key) (fate : Fate) → IsRightFate is_predicate options clauses j key fate → IsRightFate is_predicate options others j key fate
  same-fate key (Kept lines results) right = same-kept key lines (map clause_of results) right
  same-fate key (Dropped redundancy) right = same-dropped key redundancy right
  same-fate key Heavy right =
      (right.0, subst (λ (by : Lookup). IsSizedInference is_predicate (mode_of options.select) by key right.0 true) told right.1)

  same-replaced :
      (victim : ℕ) (justifiers : List ℕ) (lines : List Line) (results : List TreeClause)
      → IsRightlyReplaced is_predicate options clauses j victim justifiers lines results
      → IsRightlyReplaced is_predicate options others j victim justifiers lines results
  same-replaced victim justifiers lines results right = record {
    clause = right.clause;
    there = subst (λ (by : Lookup). by victim ≡ Some right.clause) told right.there;
    are_lines = subst (λ (by : Lookup). AreLinesFrom is_predicate by lines) told right.are_lines;
    move = right.move;
    moves = right.moves;
    result = right.result;
    reduced = subst (λ (by : Lookup). IsReducedTo is_predicate by right.clause (right.move ∷ right.moves) lines right.result) (beside victim) right.reduced;
    justified = right.justified;
    given = right.given;
  }

  same-removed :
      (victim : ℕ) (justifiers : List ℕ) (redundancy : Redundancy)
      → IsRightlyRemoved is_predicate options clauses j victim justifiers redundancy
      → IsRightlyRemoved is_predicate options others j victim justifiers redundancy
  same-removed victim justifiers redundancy right = record {
    clause = right.clause;
    there = subst (λ (by : Lookup). by victim ≡ Some right.clause) told right.there;
    moves = right.moves;
    moved = subst (λ (by : Lookup). AreMoves is_predicate by right.clause right.moves) (beside victim) right.moved;
    redundant = subst (λ (by : Lookup). IsRedundant is_predicate by (end_of_moves right.clause right.moves) redundancy) (beside victim) right.redundant;
    justified = right.justified;
  }

  same-removal :
      (victim : ℕ) (justifiers : List ℕ) (fate : Fate)
      → IsRightRemovalBy is_predicate options clauses j victim justifiers fate → IsRightRemovalBy is_predicate options others j victim justifiers fate
  same-removal victim justifiers (Kept lines results) right = same-replaced victim justifiers lines (map clause_of results) right
  same-removal victim justifiers (Dropped redundancy) right = same-removed victim justifiers redundancy right
  same-removal victim justifiers Heavy right = right

  same-gone_for : (fate : Fate) → IsGoneFor is_predicate options clauses j fate → IsGoneFor is_predicate options others j fate
  same-gone_for (Kept lines results) right = λ result led. subst (IsReducedBy result) (beside j.number) (right result led)
  same-gone_for (Dropped redundancy) right = right
  same-gone_for Heavy right = right

  same-meeting :
      (entries : List Entry) (removals : List Removal)
      → IsRightMeeting is_predicate options clauses j entries removals → IsRightMeeting is_predicate options others j entries removals
  same-meeting entries removals right = record {
    given_irreducible =
        record {
          clause = right.given_irreducible.clause;
          there = subst (λ (by : Lookup). by j.number ≡ Some right.given_irreducible.clause) told right.given_irreducible.there;
          infers = subst (IsReducedBy right.given_irreducible.clause) (beside j.number) right.given_irreducible.infers;
        };
    keys_differ = right.keys_differ;
    keys_met = right.keys_met;
    right_entries =
        All-weaker (λ (e : Entry). IsRightFate is_predicate options clauses j e.key e.fate) (λ (e : Entry). IsRightFate is_predicate options others j e.key e.fate)
        (λ e is. same-fate e.key e.fate is) entries right.right_entries;
    others_removed = right.others_removed;
    right_removals =
        All-weaker (IsRightRemoval is_predicate options clauses j) (IsRightRemoval is_predicate options others j)
        (λ m is. same-removal m.victim m.justifiers m.fate is) removals right.right_removals;
    whole =
        elim right.whole as (λ o. (j.left ≤ length entries) ⊎ (MeetsAll is_predicate options others j entries × RemovesAll is_predicate options others j removals)) [
          | inl few ↦ inl few
          | inr all ↦ inr (
            λ key c met named.
                all.0 key c met (subst (λ (by : Lookup). IsInference is_predicate (mode_of options.select) by key c) (sym told) named),
            λ n by c there given simplifies.
                all.1 n by c (subst (λ (l : Lookup). l n ≡ Some c) (sym (beside j.number)) there)
                (subst (λ (l : Lookup). l j.number ≡ Some by) (sym told) given) simplifies,
          )
        ];
  }

  pub same-work : (work : Work) → IsRightWork is_predicate options clauses j work → IsRightWork is_predicate options others j work
  same-work (Gone m) right = record {
    victim = right.victim;
    right = same-removal m.victim m.justifiers m.fate right.right;
    irreducible = same-gone_for m.fate right.irreducible;
  }
  same-work (Met entries removals) right = same-meeting entries removals right

-- ---- the law

pub batches_stay_right : BatchesStayRight
batches_stay_right origin history later batch right none =
    subst RightAfter (sym (later-append origin.options history later (start origin)))
    (record {
      given = right.given;
      out = later-out origin.options batch.job right.given later r none right.out;
      says = λ usage used.
          same-work usage.is_predicate origin.options (clauses_of r) (clauses_of s) right.given same batch.work (right.says usage used);
    })
  where
    r : PoolRecord
    r = replay origin history

    s : PoolRecord
    s = fold (after origin.options) r later

    RightAfter : PoolRecord → Type 0
    RightAfter t =
        IsGivenOut t batch.job
        (λ j. (usage : SymbolUse) → IsUseOf origin.inputs usage → IsRightWork usage.is_predicate origin.options (clauses_of t) j batch.work)

    same : (n : ℕ) → is_told right.given n ≡ true → clauses_of r n ≡ clauses_of s n
    same n told =
        let there : clauses_of r n ≡ Some (clause_numbered r n) =
        numbered-there origin.options r n (told-below r batch.job right.given (replay-placed origin history) right.out n told) in
        there ∙ sym (clause-more r s (clauses-more origin.options later r) n (clause_numbered r n) there)
