-- What a pool's fields tell of living clauses and of its end.
use Rattle.std.proofs.Common.{◌≡◌, ℕ, suc, ◌+◌, Bool, true, false, not, ◌&&◌, ◌||◌, ◌==◌, List, [], ◌∷◌, map, length, refl, ap, ap₂, sym, ◌∙◌, arith}
use Rattle.std.specs.Prelude.{Option, None, Some, cond, nat_lt, is_none, is_some, find, position, option_map, if◌then◌else◌}
use Rattle.std.proofs.lemmas.Bool.{and_from, ne_eqb, true≢false}
use Rattle.std.proofs.lemmas.List.{length-map}
use Rattle.clause_queue.specs.declared.choice.Choice.{Choice}
use Rattle.clause_queue.specs.declared.choice.Choice.TheVariants.{Light, Old}
use Rattle.pool_history.specs.Record.{PoolRecord, Death, SolverJob, PropositionalClause, has_died, jobs_out}
use Rattle.pool_history.specs.Claiming.{ready, picked, next_choice, can_give, pair_of}
use Rattle.pool_history.specs.Solving.{must_solve}
use Rattle.pool_history.specs.Outcomes.{is_at_rest, is_of_living, heavy_or_saturated, outcome_of, outcome_by}
use Rattle.pool_core.specs.State.{IsStateOf, job_entry, solver_job}
use Rattle.pool_history.specs.declared.outcome.Outcome.{Outcome}
use Rattle.pool_core.specs.declared.pool.SolverOut.{SolverOut}
use Rattle.pool_core.specs.declared.pool.Pool.TheInside.{Inside}

-- ---- a clause of a number

pub no-death : (ds : List Death) (n : ℕ) → is_none (option_map (λ (d : Death). d.event) (find (λ (d : Death). n == d.victim) ds)) ≡ not (has_died ds n)
no-death [] n = refl
no-death (d ∷ ds) n = by (n == d.victim) (no-death ds n)
  where
    by :
        (b : Bool) → is_none (option_map (λ (e : Death). e.event) (find (λ (e : Death). n == e.victim) ds)) ≡ not (has_died ds n)
        → is_none (option_map (λ (e : Death). e.event) (cond b (Some d) (find (λ (e : Death). n == e.victim) ds))) ≡ not (b || has_died ds n)
    by true rest = refl
    by false rest = rest

-- ---- whether the pool is at rest

-- what is kept tells whether the solver is to be asked
pub to-be-solved :
    (a : Inside) (r : PoolRecord) → IsStateOf a r
    → (nat_lt a.proof.splits.modelled (length a.proof.splits.propositional.lists) && is_none a.solver) ≡ must_solve r
to-be-solved a r is =
    ap₂ (λ (m n : ℕ). nat_lt m n && is_none a.solver) is.proof.splits.modelled
    (ap length is.proof.splits.propositional ∙ length-map r.propositional (λ (c : PropositionalClause). c.names))
    ∙ ap (λ b. nat_lt r.modelled (length r.propositional) && b) (sym (none-of a.solver) ∙ ap is_none is.solver)
  where
    none-of : (o : Option SolverOut) → is_none (option_map solver_job o) ≡ is_none o
    none-of None = refl
    none-of (Some s) = refl

gives-some : (r : PoolRecord) (choice : Choice) (ns : List ℕ) → is_some (picked r choice ns) ≡ not (length ns == 0)
gives-some r Light [] = refl
gives-some r Old [] = refl
gives-some r Light (n ∷ ns) = sym (ap not (ne_eqb (suc (length ns)) 0 (λ e. absurd (omega (arith, e)))))
gives-some r Old (n ∷ ns) = sym (ap not (ne_eqb (suc (length ns)) 0 (λ e. absurd (omega (arith, e)))))

ready-count : (r : PoolRecord) (ns : List ℕ) → length (map (pair_of r) ns) ≡ length ns
ready-count r [] = refl
ready-count r (n ∷ ns) = ap suc (ready-count r ns)

pub gives : (a : Inside) (r : PoolRecord) → IsStateOf a r → can_give r ≡ not (length a.proof.queue.pairs == 0)
gives a r is =
    gives-some r (next_choice r) (ready r)
    ∙ ap (λ k. not (k == 0)) (sym (ready-count r (ready r)) ∙ ap length (sym is.proof.queue))

pub jobs-count : (a : Inside) (r : PoolRecord) → IsStateOf a r → jobs_out r ≡ length a.jobs.entries + (if is_some a.solver then 1 else 0)
jobs-count a r is =
    ap₂ (λ (n m : ℕ). n + m) (sym (length-map r.given job_entry) ∙ ap length (sym is.jobs))
    (ap (λ (o : Option SolverJob). if is_some o then 1 else 0) (sym is.solver) ∙ ap (λ b. if b then 1 else 0) (some-of a.solver))
  where
    some-of : (o : Option SolverOut) → is_some (option_map solver_job o) ≡ is_some o
    some-of None = refl
    some-of (Some s) = refl

-- it is where nothing is to be solved, nothing waits, and no job is out
pub rests :
    (r : PoolRecord) → must_solve r ≡ false → can_give r ≡ false → (jobs_out r == 0) ≡ true → is_at_rest r ≡ true
rests r solved given none =
    and_from (not (must_solve r)) (not (can_give r) && (jobs_out r == 0)) (ap not solved)
    (and_from (not (can_give r)) (jobs_out r == 0) (ap not given) none)

pub solves-first : (r : PoolRecord) → must_solve r ≡ true → is_at_rest r ≡ false
solves-first r unsolved = ap (λ b. not b && (not (can_give r) && (jobs_out r == 0))) unsolved

pub gives-first : (r : PoolRecord) → can_give r ≡ true → is_at_rest r ≡ false
gives-first r gives_one = ap (λ b. not (must_solve r) && (not b && (jobs_out r == 0))) gives_one ∙ none (not (must_solve r))
  where
    none : (b : Bool) → (b && false) ≡ false
    none true = refl
    none false = refl

pub waits-first : (r : PoolRecord) → (jobs_out r == 0) ≡ false → is_at_rest r ≡ false
waits-first r some = ap (λ b. not (must_solve r) && (not (can_give r) && b)) some ∙ none (not (must_solve r)) (not (can_give r))
  where
    none : (b c : Bool) → (b && (c && false)) ≡ false
    none true true = refl
    none true false = refl
    none false c = refl

-- ---- the outcome

pub ended-outcome : (a : Inside) (r : PoolRecord) → IsStateOf a r → is_some a.proof.ended ≡ true → a.proof.ended ≡ outcome_of r
ended-outcome a r is some = is.proof.ended ∙ by r.ended (ap is_some (sym is.proof.ended) ∙ some)
  where
    by : (o : Option Outcome) → is_some o ≡ true → o ≡ outcome_by o r
    by None h = absurd (true≢false (sym h))
    by (Some o) h = refl

pub open-outcome :
    (a : Inside) (r : PoolRecord)
    → IsStateOf a r → is_some a.proof.ended ≡ false
    → outcome_of r ≡ (if is_at_rest r then Some (heavy_or_saturated (position (is_of_living r) r.set_aside)) else None)
open-outcome a r is none = ap (λ o. outcome_by o r) (sym is.proof.ended ∙ by a.proof.ended none)
  where
    by : (o : Option Outcome) → is_some o ≡ false → o ≡ None
    by None h = refl
    by (Some o) h = absurd (true≢false h)

-- ---- answers of std

pub not-some : {X : Type 0} (o : Option X) (b : Bool) → is_some o ≡ not b → b ≡ is_none o
not-some None true h = refl
not-some None false h = absurd (true≢false (sym h))
not-some (Some x) true h = absurd (true≢false h)
not-some (Some x) false h = refl
