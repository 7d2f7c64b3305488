-- A pool after the solver's job is given out, and after its answer is taken.
use Rattle.std.proofs.Common.{◌≡◌, ℕ, suc, ◌+◌, ◌≤◌, Bool, true, false, List, map, length, take, length-take-le, refl, ap, ap₂, sym, ◌∙◌, subst, arith}
use Rattle.std.specs.Prelude.{Option, None, Some, Result, Ok, Err, OnOk, OnErr, is_err, is_none, is_some, option_map, if◌then◌else◌, vec_len, vec_capacity, All}
use Rattle.std.proofs.lemmas.Bool.{true≢false}
use Rattle.std.proofs.lemmas.List.{length-map}
use Rattle.std.proofs.lemmas.Option.{none-some, same_Some}
use Rattle.term_bank.specs.declared.table.Table.{Table}
use Rattle.clause_queue.specs.Pairs.{Waiting}
use Rattle.sat_core.specs.declared.answer.Answer.TheVariants.{Model, Refuted}
use Rattle.sat_core.specs.declared.answer.Chain.{Chain}
use Rattle.pool_history.specs.Tags.{name_count}
use Rattle.pool_history.specs.Record.{PoolRecord, SolverJob, PropositionalClause, jobs_out, nothing_registered, propositional_clauses}
use Rattle.pool_history.specs.Solving.{must_solve, handed, modelled_by, refuted_by}
use Rattle.pool_history.specs.Lawful.{IsRightSolution}
use Rattle.pool_history.specs.Replay.{Origin, start, with_events}
use Rattle.pool_history.specs.declared.options.Options.{Options}
use Rattle.pool_history.specs.declared.event.Event.TheVariants.{ClaimSolve, ReturnModel, ReturnRefuted}
use Rattle.pool_core.specs.Answered.{HasCitedBelow}
use Rattle.pool_core.specs.KeptEvents.{events_of}
use Rattle.pool_core.specs.State.{origin_of, HasNodes, IsProofStateOf, IsStateOf, IsPool, job_entry, solver_job}
use Rattle.pool_core.specs.declared.pool.ProofState.{ProofState}
use Rattle.pool_core.specs.declared.pool.SolverOut.{SolverOut}
use Rattle.pool_core.specs.declared.pool.Pool.TheInside.{Inside}
use Rattle.pool_history.proofs.AboutClaims.SolverLemmas.{Within, history-within}
use Rattle.pool_history.proofs.AboutRecords.FrameLemmas.{by-if, inputs-register}
use Rattle.pool_core.proofs.AboutClaims.LogLemmas.{log-cites}
use Rattle.pool_core.proofs.AboutClaims.QuietLemmas.{IsQuietBy, quiet-pool, recast}
use Rattle.pool_core.proofs.AboutClaims.StateLemmas.{record_of, given-count}

-- ---- the job is given out

pub solve-claimed :
    (a b : Inside) (job clauses names : ℕ)
    → IsPool a → (record_of a).ended ≡ None → must_solve (record_of a) ≡ true
    → job ≡ suc (record_of a).jobs → clauses ≡ length (record_of a).propositional → names ≡ name_count (record_of a).parts
    → IsQuietBy a b (ClaimSolve job) → b.jobs.entries ≡ a.jobs.entries → b.last_job ≡ job
    → b.solver ≡ Some (record { job = job; clauses = clauses; names = names })
    → vec_len b.history.events + (length a.jobs.entries + 1) ≤ vec_capacity b.history.events
    → vec_len b.notes_before + (length a.jobs.entries + 1) ≤ vec_capacity b.notes_before
    → b.table ≡ a.table → b.proof ≡ a.proof
    → IsPool b
solve-claimed a b job clauses names is open_yet unsolved next all named quiet jobs last_job solver events_room before_room table proof =
    quiet-pool a b (ClaimSolve job) s is refl (λ is_predicate. ((next, open_yet), unsolved))
    (record { positions = refl; deaths = refl; claims = refl; counted = refl; set_aside = refl }) quiet
    (record {
      jobs = jobs ∙ is.state.jobs;
      solver =
          ap (option_map solver_job) solver
          ∙ ap₂ (λ (n m : ℕ). let o : Option SolverJob = Some (record { job = job; clauses = n; names = m }) in o) all named;
      last_job = last_job;
      queue_room = subst (λ (p : ProofState). HasNodes p 0) (sym proof) is.state.queue_room;
      history_room = let count = given-count a r is.state in omega (arith, count, events_room);
      notes_room = let count = given-count a r is.state in omega (arith, count, before_room);
    })
    (subst (λ (t : Table). IsProofStateOf t.bank t b.proof s) (sym table)
    (subst (λ (p : ProofState). IsProofStateOf a.table.bank a.table p s) (sym proof)
    (recast a.table.bank a.table a.proof r s.solver job (r.events + 1) is.state.proof)))
  where
    r : PoolRecord
    r = record_of a

    s : PoolRecord
    s = record r {
      solver = Some (record { job = job; clauses = length r.propositional; names = name_count r.parts });
      jobs = job;
      events = r.events + 1;
    }

pub handed-count : (a : Inside) (r : PoolRecord) → IsStateOf a r → length a.proof.splits.propositional.lists ≡ length r.propositional
handed-count a r is = ap length is.proof.splits.propositional ∙ length-map r.propositional (λ (c : PropositionalClause). c.names)

-- ---- the job that is out

pub solver-is : (a : Inside) (r : PoolRecord) (out : SolverOut) → IsStateOf a r → a.solver ≡ Some out → r.solver ≡ Some (solver_job out)
solver-is a r out is there = sym is.solver ∙ ap (option_map solver_job) there

pub solver-there : (a : Inside) (r : PoolRecord) (s : SolverJob) → IsStateOf a r → r.solver ≡ Some s → a.solver ≡ None → ⊥
solver-there a r s is out none = none-some s (sym (ap (option_map solver_job) none) ∙ is.solver ∙ out)

pub solver-room : (r : PoolRecord) (s : SolverJob) → r.solver ≡ Some s → jobs_out r ≡ length r.given + 1
solver-room r s out = ap (λ (o : Option SolverJob). length r.given + (if is_some o then 1 else 0)) out

-- it was handed clauses that are there
handed-few : (a : Inside) (out : SolverOut) → IsPool a → a.solver ≡ Some out → out.clauses ≤ length (record_of a).propositional
handed-few a out is there = subst (Within is_predicate options (length r.propositional)) (solver-is a r out is.state there) within
  where
    r : PoolRecord
    r = record_of a

    origin : Origin
    origin = origin_of a

    options : Options
    options = origin.options

    is_predicate : ℕ → Bool
    is_predicate n = false

    within : Within is_predicate options (length r.propositional) r.solver
    within =
        history-within is_predicate options (events_of a.history) (start origin)
        (subst (Within is_predicate options (length (start origin).propositional))
        (sym (ap (λ (t : PoolRecord). t.solver) (inputs-register options.split 0 origin.inputs nothing_registered).same)) tt)

pub handed-there : (a : Inside) (out : SolverOut) → IsPool a → a.solver ≡ Some out → out.clauses ≤ length a.proof.splits.propositional_lines.items
handed-there a out is there =
    let few = handed-few a out is there in
    let same : length a.proof.splits.propositional_lines.items ≡ length (record_of a).propositional =
    ap length is.state.proof.splits.propositional_lines ∙ length-map (record_of a).propositional (λ (c : PropositionalClause). c.line) in
    omega (arith, few, same)

-- a right log cites these and its own chains
pub log-fits :
    (a : Inside) (out : SolverOut) (job : ℕ) (chains : List Chain)
    → IsPool a → a.solver ≡ Some out → IsRightSolution (record_of a) job (Refuted chains)
    → All (HasCitedBelow (out.clauses + length chains)) chains
log-fits a out job chains is there right =
    log-cites out.clauses (handed r right.solver) chains right.says.made few right.says.lawful
  where
    r : PoolRecord
    r = record_of a

    same : solver_job out ≡ right.solver
    same = same_Some (solver_job out) right.solver (sym (solver-is a r out is.state there) ∙ right.out)

    few : length (handed r right.solver) ≤ out.clauses
    few =
        subst (λ (j : SolverJob). length (handed r j) ≤ out.clauses) same
        (let there_all = handed-few a out is there in
        let long = length-map r.propositional (λ (c : PropositionalClause). c.names) in
        let all : length (take out.clauses (propositional_clauses r)) ≡ out.clauses =
        length-take-le out.clauses (propositional_clauses r) (omega (arith, there_all, long)) in
        omega (arith, all))

-- ---- a model is taken

pub model-taken :
    (a b : Inside) (job : ℕ) (truths : List Bool) (out : SolverOut)
    → IsPool a → a.solver ≡ Some out → IsRightSolution (record_of a) job (Model truths)
    → IsQuietBy a b (ReturnModel job truths) → b.jobs.entries ≡ a.jobs.entries → b.last_job ≡ a.last_job → b.solver ≡ None
    → vec_len b.history.events ≡ vec_len a.history.events + 1 → vec_capacity b.history.events ≡ vec_capacity a.history.events
    → vec_len b.notes_before ≡ vec_len a.notes_before + 1 → vec_capacity b.notes_before ≡ vec_capacity a.notes_before
    → length b.proof.queue.pairs + b.proof.queue.spare ≡ length a.proof.queue.pairs + a.proof.queue.spare → b.table ≡ a.table
    → IsProofStateOf a.table.bank a.table b.proof (record (record_of a) { model = truths; modelled = out.clauses })
    → IsPool b
model-taken a b job truths out is there right quiet jobs last_job solver events_len events_room before_len before_room nodes table proof =
    quiet-pool a b (ReturnModel job truths) s is
    (ap (λ (o : Option SolverJob). with_events (r.events + 1) (modelled_by o truths r)) (solver-is a r out is.state there))
    (λ is_predicate. right)
    (record { positions = refl; deaths = refl; claims = refl; counted = refl; set_aside = refl }) quiet
    (record {
      jobs = jobs ∙ is.state.jobs;
      solver = ap (option_map solver_job) solver;
      last_job = last_job ∙ is.state.last_job;
      queue_room = let room = is.state.queue_room in let same = ap length quiet.register in omega (arith, room, same, nodes);
      history_room = let one = solver-room r (solver_job out) (solver-is a r out is.state there) in let room = is.state.history_room in omega (arith, one, room, events_len, events_room);
      notes_room = let one = solver-room r (solver_job out) (solver-is a r out is.state there) in let room = is.state.notes_room in omega (arith, one, room, before_len, before_room);
    })
    (subst (λ (t : Table). IsProofStateOf t.bank t b.proof s) (sym table)
    (recast a.table.bank a.table b.proof (record r { model = truths; modelled = out.clauses }) None r.jobs (r.events + 1) proof))
  where
    r : PoolRecord
    r = record_of a

    s : PoolRecord
    s = record r { solver = None; model = truths; modelled = out.clauses; events = r.events + 1 }

-- ---- a refutation is taken

pub log-taken :
    (a b : Inside) (job : ℕ) (chains : List Chain) (out : SolverOut)
    → IsPool a → a.solver ≡ Some out → IsRightSolution (record_of a) job (Refuted chains)
    → IsQuietBy a b (ReturnRefuted job chains) → b.jobs.entries ≡ a.jobs.entries → b.last_job ≡ a.last_job → b.solver ≡ None
    → vec_len b.history.events ≡ vec_len a.history.events + 1 → vec_capacity b.history.events ≡ vec_capacity a.history.events
    → vec_len b.notes_before ≡ vec_len a.notes_before + 1 → vec_capacity b.notes_before ≡ vec_capacity a.notes_before
    → b.proof.queue ≡ a.proof.queue → b.table ≡ a.table
    → IsProofStateOf a.table.bank a.table b.proof (refuted_by (Some (solver_job out)) chains (record_of a))
    → IsPool b
log-taken a b job chains out is there right quiet jobs last_job solver events_len events_room before_len before_room queue table proof =
    quiet-pool a b (ReturnRefuted job chains) s is
    (ap (λ (o : Option SolverJob). with_events (r.events + 1) (refuted_by o chains r)) (solver-is a r out is.state there))
    (λ is_predicate. right)
    (record {
      positions = by-if (λ (t : PoolRecord). t.positions ≡ r.positions) (is_none r.ended) _ _ refl refl;
      deaths = by-if (λ (t : PoolRecord). t.deaths ≡ r.deaths) (is_none r.ended) _ _ refl refl;
      claims = by-if (λ (t : PoolRecord). t.claims ≡ r.claims) (is_none r.ended) _ _ refl refl;
      counted = by-if (λ (t : PoolRecord). t.counted ≡ r.counted) (is_none r.ended) _ _ refl refl;
      set_aside = by-if (λ (t : PoolRecord). t.set_aside ≡ r.set_aside) (is_none r.ended) _ _ refl refl;
    })
    quiet
    (record {
      jobs = jobs ∙ is.state.jobs ∙ sym (ap (map job_entry) same_given);
      solver = ap (option_map solver_job) solver ∙ sym no_solver;
      last_job = last_job ∙ is.state.last_job ∙ sym (by-if (λ (t : PoolRecord). t.jobs ≡ r.jobs) (is_none r.ended) _ _ refl refl);
      queue_room =
          let room = is.state.queue_room in let same = ap length quiet.register in
          let nodes = ap (λ (q : Waiting). length q.pairs + q.spare) queue in
          omega (arith, room, same, nodes);
      history_room =
          let one = solver-room r (solver_job out) (solver-is a r out is.state there) in let less = jobs_left in let room = is.state.history_room in
          omega (arith, one, less, room, events_len, events_room);
      notes_room =
          let one = solver-room r (solver_job out) (solver-is a r out is.state there) in let less = jobs_left in let room = is.state.notes_room in
          omega (arith, one, less, room, before_len, before_room);
    })
    (subst (λ (t : Table). IsProofStateOf t.bank t b.proof s) (sym table)
    (recast a.table.bank a.table b.proof refuted refuted.solver refuted.jobs (r.events + 1) proof))
  where
    r : PoolRecord
    r = record_of a

    refuted : PoolRecord
    refuted = refuted_by (Some (solver_job out)) chains r

    s : PoolRecord
    s = with_events (r.events + 1) refuted

    same_given : refuted.given ≡ r.given
    same_given = by-if (λ (t : PoolRecord). t.given ≡ r.given) (is_none r.ended) _ _ refl refl

    no_solver : refuted.solver ≡ None
    no_solver = by-if (λ (t : PoolRecord). t.solver ≡ None) (is_none r.ended) _ _ refl refl

    jobs_left : jobs_out s ≡ length r.given + 0
    jobs_left = ap₂ (λ (n m : ℕ). n + m) (ap length same_given) (ap (λ (o : Option SolverJob). if is_some o then 1 else 0) no_solver)

-- ---- answers of std

-- what a clause says of an answer that is an error, and of one that isn't
pub of-err : {T E : Type 0} (answer : Result T E) (P : Type 0) (b : Bool) → b ≡ is_err answer → b ≡ true → OnErr answer P → P
of-err (Ok y) P b is failed says = absurd (true≢false (sym failed ∙ is))
of-err (Err e) P b is failed says = says

pub of-ok : {T E : Type 0} (answer : Result T E) (P : Type 0) (b : Bool) → b ≡ is_err answer → b ≡ false → OnOk answer P → P
of-ok (Ok y) P b is no_error says = says
of-ok (Err e) P b is no_error says = absurd (true≢false (sym is ∙ no_error))
