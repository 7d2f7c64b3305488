-- Numbers of positions and jobs in lawful histories.
use Rattle.std.proofs.Common.{◌≡◌, ℕ, suc, ◌+◌, ◌≤◌, Bool, true, false, ◌==◌, List, [], ◌∷◌, ◌++◌, map, length, append-nil, refl, ap, ap₂, sym, ◌∙◌, subst, ⊎_elim, arith}
use Rattle.std.specs.Prelude.{Option, None, Some, cond, is_none, is_some, fold, find, filter, All}
use Rattle.std.specs.List.{range_with_len}
use Rattle.std.proofs.lemmas.Bool.{true≢false, eqb-true}
use Rattle.std.proofs.lemmas.List.Elements.{All-nil, All-cons}
use Rattle.std.proofs.lemmas.Option.{none-some}
use Rattle.kernel_steps.specs.Split.{has_number}
use Rattle.sat_core.specs.declared.answer.Chain as log
use Rattle.pool_history.specs.Record.{PoolRecord, GivenJob, SolverJob, given_job, without_job, nothing_registered}
use Rattle.pool_history.specs.Returning.{becomes_active, worked, returns_to}
use Rattle.pool_history.specs.Solving.{modelled_by, refuted_by}
use Rattle.pool_history.specs.Claiming.{next_given, given_out, claimed_by}
use Rattle.pool_history.specs.Events.{job_of}
use Rattle.pool_history.specs.Lawful.{IsAllowed, IsLawfulFrom}
use Rattle.pool_history.specs.Laws.{is_given, JobsAreCounted, JobsWereGiven, PositionsStay}
use Rattle.pool_history.specs.Replay.{Origin, without_solver, after, start, replay}
use Rattle.pool_history.specs.declared.options.Options.{Options}
use Rattle.pool_history.specs.declared.batch.Batch.{Batch}
use Rattle.pool_history.specs.declared.batch.Work.{Work}
use Rattle.pool_history.specs.declared.batch.Work.TheVariants.{Gone, Met}
use Rattle.pool_history.specs.declared.event.Event.{Event}
use Rattle.pool_history.specs.declared.event.Event.TheVariants.{Claim, Return, Stale, Void, ClaimSolve, ReturnModel, ReturnRefuted, Abandon}
use Rattle.pool_history.proofs.AboutRecords.FrameLemmas.{by-if, inputs-register}
use Rattle.pool_history.proofs.AboutRecords.GrowthLemmas.{more-then, removed-grows, met-grows, registers-grows}
use Rattle.pool_history.proofs.AboutClaims.HistoryLemmas.{later-append}
use Rattle.pool_history.proofs.AboutBounds.JobLemmas.{Rising, rising-bound}
use Rattle.pool_history.proofs.AboutBounds.TimeLemmas.{event-moves}

-- ---- positions stay

module _ (options : Options) where
  abbrev pub Extends : List ℕ → List ℕ → Type 0
  Extends ps qs = (more : List ℕ) × (qs ≡ ps ++ more)

  same-positions : (r s : PoolRecord) → s.positions ≡ r.positions → Extends r.positions s.positions
  same-positions r s same = ([], same ∙ sym (append-nil r.positions))

  claimed-positions : (job : ℕ) (o : Option ℕ) (r : PoolRecord) → Extends r.positions (claimed_by options job o r).positions
  claimed-positions job None r = same-positions r r refl
  claimed-positions job (Some n) r =
      by-if (λ s. Extends r.positions (given_out options job n s).positions) (has_number n r.positions) r (record r { positions = r.positions ++ n ∷ [] })
      (same-positions r r refl) (n ∷ [], refl)

  pub returned-positions : (batch : Batch) (o : Option GivenJob) (r : PoolRecord) → (returns_to options batch o r).positions ≡ r.positions
  returned-positions batch None r = refl
  returned-positions batch (Some j) r =
      let s : PoolRecord = record r { given = without_job batch.job r.given } in
      by-if (λ (t : PoolRecord). t.positions ≡ r.positions) (is_none r.ended) (worked options j.number batch.work s) (becomes_active j.number s)
      (by s batch.work) refl
    where
      by : (s : PoolRecord) (work : Work) → (worked options j.number work s).positions ≡ s.positions
      by s (Gone m) = (removed-grows options m s).positions
      by s (Met entries removals) = (met-grows options j.number entries removals s).positions

  pub modelled-positions : (o : Option SolverJob) (truths : List Bool) (r : PoolRecord) → (modelled_by o truths r).positions ≡ r.positions
  modelled-positions None truths r = refl
  modelled-positions (Some s) truths r = refl

  pub refuted-positions : (o : Option SolverJob) (chains : List log.Chain) (r : PoolRecord) → (refuted_by o chains r).positions ≡ r.positions
  refuted-positions None chains r = refl
  refuted-positions (Some s) chains r = by-if (λ (t : PoolRecord). t.positions ≡ r.positions) (is_none r.ended) _ _ refl refl

  pub after-positions : (r : PoolRecord) (e : Event) → Extends r.positions (after options r e).positions
  after-positions r (Claim job) = claimed-positions job (next_given r) r
  after-positions r (Return batch) = same-positions r (returns_to options batch (given_job r batch.job) r) (returned-positions batch (given_job r batch.job) r)
  after-positions r (Stale job justifier) = same-positions r r refl
  after-positions r (Void job) = same-positions r r refl
  after-positions r (ClaimSolve job) = same-positions r r refl
  after-positions r (ReturnModel job truths) = same-positions r (modelled_by r.solver truths r) (modelled-positions r.solver truths r)
  after-positions r (ReturnRefuted job chains) = same-positions r (refuted_by r.solver chains r) (refuted-positions r.solver chains r)
  after-positions r (Abandon job) = same-positions r r refl

  history-positions : (es : List Event) (r : PoolRecord) → Extends r.positions (fold (after options) r es).positions
  history-positions [] r = same-positions r r refl
  history-positions (e ∷ es) r =
      more-then r.positions (after options r e).positions (fold (after options) r (e ∷ es)).positions (after-positions r e) (history-positions es (after options r e))

pub positions_stay : PositionsStay
positions_stay origin history later =
    subst (λ (s : PoolRecord). Extends origin.options (replay origin history).positions s.positions) (sym (later-append origin.options history later (start origin)))
    (history-positions origin.options later (replay origin history))

-- ---- jobs are counted

module _ (options : Options) where
  grown-jobs : (batch : Batch) (o : Option GivenJob) (r : PoolRecord) → (returns_to options batch o r).jobs ≡ r.jobs
  grown-jobs batch None r = refl
  grown-jobs batch (Some j) r =
      let s : PoolRecord = record r { given = without_job batch.job r.given } in
      by-if (λ (t : PoolRecord). t.jobs ≡ r.jobs) (is_none r.ended) (worked options j.number batch.work s) (becomes_active j.number s) (by s batch.work) refl
    where
      by : (s : PoolRecord) (work : Work) → (worked options j.number work s).jobs ≡ s.jobs
      by s (Gone m) = (removed-grows options m s).jobs
      by s (Met entries removals) = (met-grows options j.number entries removals s).jobs

  modelled-jobs : (o : Option SolverJob) (truths : List Bool) (r : PoolRecord) → (modelled_by o truths r).jobs ≡ r.jobs
  modelled-jobs None truths r = refl
  modelled-jobs (Some s) truths r = refl

  refuted-jobs : (o : Option SolverJob) (chains : List log.Chain) (r : PoolRecord) → (refuted_by o chains r).jobs ≡ r.jobs
  refuted-jobs None chains r = refl
  refuted-jobs (Some s) chains r = by-if (λ (t : PoolRecord). t.jobs ≡ r.jobs) (is_none r.ended) _ _ refl refl

  claimed-job : (job : ℕ) (o : Option ℕ) (r : PoolRecord) → is_some o ≡ true → (claimed_by options job o r).jobs ≡ job
  claimed-job job None r given = absurd (true≢false (sym given))
  claimed-job job (Some n) r given =
      by-if (λ s. (given_out options job n s).jobs ≡ job) (has_number n r.positions) r (record r { positions = r.positions ++ n ∷ [] }) refl refl

  module _ (is_predicate : ℕ → Bool) where
    -- the jobs that events give out, from the number after the last on
    abbrev AreCounted : ℕ → List Event → Type 0
    AreCounted last es = map job_of (filter is_given es) ≡ range_with_len (last + 1) (length (filter is_given es))

    jobs-counted : (es : List Event) (r : PoolRecord) → IsLawfulFrom is_predicate options r es → AreCounted r.jobs es
    jobs-counted [] r lawful = refl
    jobs-counted (e ∷ es) r lawful = by e lawful.0 (jobs-counted es (after options r e) lawful.1)
      where
        given : (e : Event) (job next : ℕ) → job_of e ≡ job → job ≡ suc r.jobs → next ≡ job → AreCounted next es
            → job_of e ∷ map job_of (filter is_given es) ≡ range_with_len (r.jobs + 1) (suc (length (filter is_given es)))
        given e job next of_job is after rest =
            ap₂ (λ n ns. n ∷ ns) (of_job ∙ (let same : job ≡ r.jobs + 1 = omega (arith, is) in same))
            (rest ∙ ap (λ n. range_with_len n (length (filter is_given es))) (let same : next + 1 ≡ (r.jobs + 1) + 1 = omega (arith, after, is) in same))

        other : (next : ℕ) → next ≡ r.jobs → AreCounted next es → AreCounted r.jobs es
        other next same rest = subst (λ n. AreCounted n es) same rest

        by : (e : Event) → IsAllowed is_predicate options r e → AreCounted (after options r e).jobs es → AreCounted r.jobs (e ∷ es)
        by (Claim job) allowed rest = given (Claim job) job (after options r (Claim job)).jobs refl (allowed.0).0 (claimed-job job (next_given r) r allowed.2) rest
        by (ClaimSolve job) allowed rest = given (ClaimSolve job) job job refl (allowed.0).0 refl rest
        by (Return batch) allowed rest = other (after options r (Return batch)).jobs (grown-jobs batch (given_job r batch.job) r) rest
        by (Stale job justifier) allowed rest = rest
        by (Void job) allowed rest = rest
        by (ReturnModel job truths) allowed rest = other (after options r (ReturnModel job truths)).jobs (modelled-jobs r.solver truths r) rest
        by (ReturnRefuted job chains) allowed rest = other (after options r (ReturnRefuted job chains)).jobs (refuted-jobs r.solver chains r) rest
        by (Abandon job) allowed rest = rest

pub jobs_are_counted : JobsAreCounted
jobs_are_counted is_predicate origin history lawful =
    subst (λ n. AreCounted origin.options is_predicate n history)
    (ap (λ (r : PoolRecord). r.jobs) (inputs-register origin.options.split 0 origin.inputs nothing_registered).same)
    (jobs-counted origin.options is_predicate history (start origin) lawful)

-- ---- jobs were given

module _ (is_predicate : ℕ → Bool) (options : Options) where
  -- the solver's job was given
  abbrev pub IsSolverGiven : ℕ → Option SolverJob → Type 0
  IsSolverGiven jobs None = Unit {0}
  IsSolverGiven jobs (Some s) = (1 ≤ s.job) × (s.job ≤ jobs)

  solver-later : (jobs more : ℕ) (o : Option SolverJob) → jobs ≤ more → IsSolverGiven jobs o → IsSolverGiven more o
  solver-later jobs more None less given = tt
  solver-later jobs more (Some s) less given = (given.0, omega (arith, less, given.1))

  pub record AreNumbered (r : PoolRecord) : Type 0 where
    pub rise : Rising 0 r.jobs r.given
    pub solver : IsSolverGiven r.jobs r.solver

  -- a job on a given clause that is out
  pub given-bound : (low high job : ℕ) (js : List GivenJob) (j : GivenJob) → Rising low high js → find (λ (k : GivenJob). k.job == job) js ≡ Some j → (low + 1 ≤ job) × (job ≤ high)
  given-bound low high job [] j rise found = absurd (none-some j found)
  given-bound low high job (k ∷ ks) j rise found = by (k.job == job) refl found (given-bound k.job high job ks j rise.1)
    where
      by :
          (b : Bool) → (k.job == job) ≡ b → cond b (Some k) (find (λ (i : GivenJob). i.job == job) ks) ≡ Some j
          → (find (λ (i : GivenJob). i.job == job) ks ≡ Some j → (k.job + 1 ≤ job) × (job ≤ high)) → (low + 1 ≤ job) × (job ≤ high)
      by true is here rest =
          let same : k.job ≡ job = eqb-true k.job job is in
          let above = rise.0 in
          let most = rising-bound k.job high ks rise.1 in
          (omega (arith, same, above), omega (arith, same, most))
      by false is later rest = let found = rest later in let above = rise.0 in (omega (arith, found.0, above), found.1)

  out-bound : (r : PoolRecord) (job : ℕ) (j : GivenJob) → AreNumbered r → given_job r job ≡ Some j → (1 ≤ job) × (job ≤ r.jobs)
  out-bound r job j numbered out = given-bound 0 r.jobs job r.given j numbered.rise out

  solver-bound : (r : PoolRecord) (job : ℕ) (s : SolverJob) → AreNumbered r → r.solver ≡ Some s → s.job ≡ job → (1 ≤ job) × (job ≤ r.jobs)
  solver-bound r job s numbered out same =
      let given : (1 ≤ s.job) × (s.job ≤ r.jobs) = subst (IsSolverGiven r.jobs) out numbered.solver in
      (omega (arith, given.0, same), omega (arith, given.1, same))

  -- ---- a batch leaves the solver's job

  abbrev KeepsSolver : PoolRecord → PoolRecord → Type 0
  KeepsSolver r s = s.solver ≡ r.solver

  worked-solver : (n : ℕ) (work : Work) (r : PoolRecord) → KeepsSolver r (worked options n work r)
  worked-solver n (Gone m) r = (removed-grows options m r).solver
  worked-solver n (Met entries removals) r = (met-grows options n entries removals r).solver

  pub returned-solver : (batch : Batch) (o : Option GivenJob) (r : PoolRecord) → KeepsSolver r (returns_to options batch o r)
  returned-solver batch None r = refl
  returned-solver batch (Some j) r =
      let s : PoolRecord = record r { given = without_job batch.job r.given } in
      by-if (KeepsSolver r) (is_none r.ended) (worked options j.number batch.work s) (becomes_active j.number s) (worked-solver j.number batch.work s) refl

  -- ---- events

  pub claimed-solver : (job : ℕ) (o : Option ℕ) (r : PoolRecord) → KeepsSolver r (claimed_by options job o r)
  claimed-solver job None r = refl
  claimed-solver job (Some n) r =
      by-if (λ s. KeepsSolver r (given_out options job n s)) (has_number n r.positions) r (record r { positions = r.positions ++ n ∷ [] }) refl refl

  modelled-given : (o : Option SolverJob) (truths : List Bool) (r : PoolRecord) → r.solver ≡ o → IsSolverGiven r.jobs r.solver → IsSolverGiven r.jobs (modelled_by o truths r).solver
  modelled-given None truths r is given = given
  modelled-given (Some s) truths r is given = tt

  refuted-given : (o : Option SolverJob) (chains : List log.Chain) (r : PoolRecord) → IsSolverGiven r.jobs r.solver → IsSolverGiven r.jobs (refuted_by o chains r).solver
  refuted-given None chains r given = given
  refuted-given (Some s) chains r given = by-if (λ (t : PoolRecord). IsSolverGiven r.jobs t.solver) (is_none r.ended) _ _ tt tt

  without-given : (job jobs : ℕ) (o : Option SolverJob) → IsSolverGiven jobs o → IsSolverGiven jobs (without_solver job o)
  without-given job jobs None given = tt
  without-given job jobs (Some s) given = by-if (IsSolverGiven jobs) (s.job == job) None (Some s) tt given

  -- what an event leaves of the jobs
  pub record Numbers (r s : PoolRecord) (job : ℕ) : Type 0 where
    pub more : r.jobs ≤ s.jobs
    pub solver : IsSolverGiven s.jobs s.solver
    pub job_given : (1 ≤ job) × (job ≤ s.jobs)

  kept-numbers : (r s : PoolRecord) (job : ℕ) → s.jobs ≡ r.jobs → IsSolverGiven r.jobs s.solver → (1 ≤ job) × (job ≤ r.jobs) → Numbers r s job
  kept-numbers r s job same given bound = record {
    more = omega (arith, same);
    solver = subst (λ n. IsSolverGiven n s.solver) (sym same) given;
    job_given = (bound.0, let most = bound.1 in omega (arith, same, most));
  }

  pub event-numbers : (r : PoolRecord) (e : Event) → IsAllowed is_predicate options r e → AreNumbered r → Numbers r (after options r e) (job_of e)
  event-numbers r (Claim job) allowed numbered =
      let next : job ≡ suc r.jobs = (allowed.0).0 in
      let jobs : (after options r (Claim job)).jobs ≡ job = claimed-job options job (next_given r) r allowed.2 in
      let more : r.jobs ≤ (after options r (Claim job)).jobs = omega (arith, jobs, next) in
      record {
        more = more;
        solver =
            subst (IsSolverGiven (after options r (Claim job)).jobs) (sym (claimed-solver job (next_given r) r))
            (solver-later r.jobs (after options r (Claim job)).jobs r.solver more numbered.solver);
        job_given = (omega (arith, next), omega (arith, jobs));
      }
  event-numbers r (Return batch) allowed numbered =
      kept-numbers r (after options r (Return batch)) batch.job (grown-jobs options batch (given_job r batch.job) r)
      (subst (IsSolverGiven r.jobs) (sym (returned-solver batch (given_job r batch.job) r)) numbered.solver) (out-bound r batch.job allowed.given numbered allowed.out)
  event-numbers r (Stale job justifier) allowed numbered =
      kept-numbers r (after options r (Stale job justifier)) job refl numbered.solver (out-bound r job allowed.given numbered allowed.out)
  event-numbers r (Void job) allowed numbered = kept-numbers r (after options r (Void job)) job refl numbered.solver (out-bound r job allowed.given numbered allowed.out)
  event-numbers r (ClaimSolve job) allowed numbered =
      let next : job ≡ suc r.jobs = (allowed.0).0 in
      record {
        more = omega (arith, next);
        solver = (let some : 1 ≤ job = omega (arith, next) in some, let same : job ≤ job = omega arith in same);
        job_given = (omega (arith, next), omega arith);
      }
  event-numbers r (ReturnModel job truths) allowed numbered =
      kept-numbers r (after options r (ReturnModel job truths)) job (modelled-jobs options r.solver truths r) (modelled-given r.solver truths r refl numbered.solver)
      (solver-bound r job allowed.solver numbered allowed.out allowed.same)
  event-numbers r (ReturnRefuted job chains) allowed numbered =
      kept-numbers r (after options r (ReturnRefuted job chains)) job (refuted-jobs options r.solver chains r) (refuted-given r.solver chains r numbered.solver)
      (solver-bound r job allowed.solver numbered allowed.out allowed.same)
  event-numbers r (Abandon job) allowed numbered =
      kept-numbers r (after options r (Abandon job)) job refl (without-given job r.jobs r.solver numbered.solver)
      (⊎_elim (λ out. out-bound r job out.given numbered out.out) (λ out. solver-bound r job out.solver numbered out.out out.same) allowed)

  -- ---- histories

  abbrev WasGiven : ℕ → Event → Type 0
  WasGiven jobs e = (1 ≤ job_of e) × (job_of e ≤ jobs)

  jobs-given : (es : List Event) (r : PoolRecord) → IsLawfulFrom is_predicate options r es → AreNumbered r
      → (r.jobs ≤ (fold (after options) r es).jobs) × All (WasGiven (fold (after options) r es).jobs) es
  jobs-given [] r lawful numbered = (omega arith, All-nil (WasGiven r.jobs))
  jobs-given (e ∷ es) r lawful numbered =
      let s : PoolRecord = after options r e in
      let numbers = event-numbers r e lawful.0 numbered in
      let rest =
      jobs-given es s lawful.1
      (record { rise = (event-moves is_predicate options r e lawful.0).rising numbered.rise; solver = numbers.solver }) in
      let last : ℕ = (fold (after options) s es).jobs in
      let more = numbers.more in
      let later : s.jobs ≤ last = rest.0 in
      let most = (numbers.job_given).1 in (
        omega (arith, more, later),
        All-cons (WasGiven last) e es ((numbers.job_given).0, omega (arith, most, later)) rest.1,
      )

-- the inputs bring no jobs
pub begins-solver : (origin : Origin) → (start origin).solver ≡ None
begins-solver origin = ap (λ (r : PoolRecord). r.solver) (inputs-register origin.options.split 0 origin.inputs nothing_registered).same

pub begins-numbered : (is_predicate : ℕ → Bool) (origin : Origin) → AreNumbered is_predicate origin.options (start origin)
begins-numbered is_predicate origin =
    let grown = registers-grows nothing_registered (start origin) (inputs-register origin.options.split 0 origin.inputs nothing_registered) in
    record {
      rise = subst (λ k. Rising 0 k (start origin).given) (sym grown.jobs) (subst (λ js. Rising 0 0 js) (sym grown.given) (omega arith));
      solver = subst (IsSolverGiven is_predicate origin.options (start origin).jobs) (sym (begins-solver origin)) tt;
    }

pub jobs_were_given : JobsWereGiven
jobs_were_given is_predicate origin history lawful =
    (jobs-given is_predicate origin.options history (start origin) lawful (begins-numbered is_predicate origin)).1
