use Rattle.std.proofs.Common.{◌≡◌, ◌++◌, [], ◌∷◌, ◌<◌, ℕ, map, length, refl, ap, sym, ◌∙◌, subst, arith}
use Rattle.std.specs.Prelude.{None, true, false, nat_lt, not}
use Rattle.std.proofs.lemmas.Bool.{and_parts, ltb-true}
use Rattle.pool_history.specs.Claiming.{ready, pair_of}
use Rattle.pool_history.specs.Lawful.{IsOut}
use Rattle.pool_history.specs.Record.{PoolRecord, given_job, is_dead, lives}
use Rattle.pool_history.specs.Replay.{replay, without_solver}
use Rattle.pool_history.specs.View.{PoolView}
use Rattle.pool_history.specs.declared.event.Event.TheVariants.{Abandon}
use Rattle.pool_core.specs.Placing.{with_queue}
use Rattle.clause_register.specs.Register.{is_living_at}
use Rattle.pool_core.specs.State.{IsProofStateOf}
use Rattle.pool_core.specs.declared.pool.ProofState.{ProofState}
use Rattle.pool_core.proofs.AboutClaims.ClaimLemmas.{no-value}
use Rattle.pool_core.proofs.AboutClaims.GiveUpLemmas.{IsOutBy, absent-out, fewer-out, given_up, let-go-pool, let-go-proof, out-by, out-nowhere, queue-dead, queue-lacks, queue-nowhere, some-out, waits-then}
use Rattle.pool_core.proofs.AboutClaims.StateLemmas.{record_of, pool-rises, registered-count}
use Rattle.pool_core.proofs.AboutReturns.ProofStateLemmas.{living-at}
use Rattle.pool_core.proofs.AboutWaking.AwakeLemmas.{tagged-here}
use Rattle.pool_core.proofs.AboutWaking.RefreshLemmas.{node-for}
use Rattle.pool_core.proofs.pool.Pool.abandon.Goals as goal

pub push_reserved-requires : goal.push_reserved-requires
push_reserved-requires c =
    let r : PoolRecord = record_of c.self.inside in
    let out : IsOut r c.args.job = subst (λ (v : PoolView). IsOut (replay v.origin v.history) c.args.job) (sym c.self.view_is) c.requires in
    let some = some-out c.args.job r (pool-rises c.self.inside c.self.invariant) out in
    let room = c.self.invariant.state.notes_room in
    omega (arith, room, some)

pub push-requires : goal.push-requires
push-requires c =
    let r : PoolRecord = record_of c.self.inside in
    let out : IsOut r c.args.job = subst (λ (v : PoolView). IsOut (replay v.origin v.history) c.args.job) (sym c.self.view_is) c.requires in
    let some = some-out c.args.job r (pool-rises c.self.inside c.self.invariant) out in
    let room = c.self.invariant.state.history_room in
    omega (arith, room, some)

pub wait_again-requires : goal.wait_again-requires
wait_again-requires c =
    let r : PoolRecord = record_of c.self.inside in
    let by : IsOutBy r c.args.job c.in-Some.out.number =
    out-by c.self.inside r c.args.job c.in-Some.out c.self.invariant.state (pool-rises c.self.inside c.self.invariant) (sym c.remove-given.ensures.value ∙ c.in-Some.is) in
    let alive : lives r c.in-Some.out.number ≡ true =
    sym (living-at c.self.inside.table.bank c.self.inside.table c.self.inside.proof r c.in-Some.out.number c.self.invariant.state.proof)
    ∙ ap (is_living_at c.self.inside.proof.register.clauses) (sym c.from.ensures) ∙ sym c.is_living.ensures ∙ c.if-is_living.true in
    let low : c.in-Some.out.number < length r.registered =
    ltb-true c.in-Some.out.number (length r.registered) (and_parts (nat_lt c.in-Some.out.number (length r.registered)) (not (is_dead r c.in-Some.out.number)) alive).0 in
    let count = registered-count c.self.inside r c.self.invariant.state in
    let there : c.in-Some.out.number < length c.self.inside.proof.register.clauses = omega (arith, low, count) in
    record {
      there = there;
      tags = tagged-here c.self.inside.table.bank c.self.inside.table c.self.inside.proof r c.self.invariant.state.proof;
      absent = λ has. absent-out c.self.inside c.args.job c.in-Some.out.number c.self.invariant by has;
      room =
          node-for c.self.inside.table.bank c.self.inside.table c.self.inside.proof r c.in-Some.out.number c.self.invariant.state.proof c.self.invariant.state.queue_room there
          (λ has. absent-out c.self.inside c.args.job c.in-Some.out.number c.self.invariant by has);
    }

pub invariant_of-self : goal.invariant_of-self
invariant_of-self c =
    let r : PoolRecord = record_of c.self.inside in
    let out : IsOut r c.args.job = subst (λ (v : PoolView). IsOut (replay v.origin v.history) c.args.job) (sym c.self.view_is) c.requires in
    let by : IsOutBy r c.args.job c.in-Some.out.number =
    out-by c.self.inside r c.args.job c.in-Some.out c.self.invariant.state (pool-rises c.self.inside c.self.invariant) (sym c.remove-given.ensures.value ∙ c.in-Some.is) in
    let alive : lives r c.in-Some.out.number ≡ true =
    sym (living-at c.self.inside.table.bank c.self.inside.table c.self.inside.proof r c.in-Some.out.number c.self.invariant.state.proof)
    ∙ ap (is_living_at c.self.inside.proof.register.clauses) (sym c.from.ensures) ∙ sym c.is_living.ensures ∙ c.if-is_living.true in
    let many : c.len.result ≡ length c.self.inside.proof.notes.items = omega (arith, c.self.inside.proof.notes.ok.0) in
    let s : PoolRecord = given_up c.self.inside.options c.args.job r in
    let solver = c.without_job-self-inside.ensures ∙ ap (without_solver c.args.job) c.self.invariant.state.solver in
    let before : IsProofStateOf c.self.inside.table.bank c.self.inside.table (with_queue (map (pair_of s) (ready s)) c.self.inside.proof) s =
    let-go-proof c.self.inside.table.bank c.self.inside.table c.self.inside.proof (with_queue (map (pair_of s) (ready s)) c.self.inside.proof) r c.args.job (without_solver c.args.job r.solver) refl refl
    c.self.invariant.state.proof in
    let-go-pool c.self.inside _ (Abandon c.args.job) c.args.job (without_solver c.args.job r.solver) c.self.invariant refl (λ is_predicate. out)
    (fewer-out c.args.job r (pool-rises c.self.inside c.self.invariant) out)
    (record {
      origin = refl;
      register = ap (λ (p : ProofState). p.register.clauses) c.wait_again.ensures.rest;
      positions = refl;
      history = c.push.ensures.events;
      notes = ap (λ (p : ProofState). p.notes.items) c.wait_again.ensures.rest;
      before = c.push_reserved.ensures.items ∙ ap (λ (k : ℕ). c.self.inside.notes_before.items ++ k ∷ []) many;
      counted = refl;
      set_aside = refl;
      place = refl;
    })
    (record {
      jobs = c.remove-given.ensures.entries;
      last_job = refl;
      history_len = c.push.ensures.len;
      history_room = c.push.ensures.room;
      before_len = c.push_reserved.ensures.len;
      before_room = c.push_reserved.ensures.capacity;
    })
    solver c.wait_again.ensures.nodes
    (c.wait_again.ensures.waits c.self.inside.table.bank c.self.inside.table s (map (pair_of s) (ready s))
    (waits-then c.self.inside c.args.job c.in-Some.out.number c.self.invariant by alive)
    (queue-lacks c.self.inside c.args.job c.in-Some.out.number c.self.invariant by c.self.inside.proof.queue.pairs refl)
    before)

pub invariant_of-self-else-is_living : goal.invariant_of-self-else-is_living
invariant_of-self-else-is_living c =
    let r : PoolRecord = record_of c.self.inside in
    let out : IsOut r c.args.job = subst (λ (v : PoolView). IsOut (replay v.origin v.history) c.args.job) (sym c.self.view_is) c.requires in
    let by : IsOutBy r c.args.job c.in-Some.out.number =
    out-by c.self.inside r c.args.job c.in-Some.out c.self.invariant.state (pool-rises c.self.inside c.self.invariant) (sym c.remove-given.ensures.value ∙ c.in-Some.is) in
    let dead : lives r c.in-Some.out.number ≡ false =
    sym (living-at c.self.inside.table.bank c.self.inside.table c.self.inside.proof r c.in-Some.out.number c.self.invariant.state.proof)
    ∙ ap (is_living_at c.self.inside.proof.register.clauses) (sym c.from.ensures) ∙ sym c.is_living.ensures ∙ c.if-is_living.false in
    let many : c.len.result ≡ length c.self.inside.proof.notes.items = omega (arith, c.self.inside.proof.notes.ok.0) in
    let-go-pool c.self.inside _ (Abandon c.args.job) c.args.job (without_solver c.args.job r.solver) c.self.invariant refl (λ is_predicate. out)
    (fewer-out c.args.job r (pool-rises c.self.inside c.self.invariant) out)
    (record {
      origin = refl;
      register = refl;
      positions = refl;
      history = c.push.ensures.events;
      notes = refl;
      before = c.push_reserved.ensures.items ∙ ap (λ (k : ℕ). c.self.inside.notes_before.items ++ k ∷ []) many;
      counted = refl;
      set_aside = refl;
      place = refl;
    })
    (record {
      jobs = c.remove-given.ensures.entries;
      last_job = refl;
      history_len = c.push.ensures.len;
      history_room = c.push.ensures.room;
      before_len = c.push_reserved.ensures.len;
      before_room = c.push_reserved.ensures.capacity;
    })
    (c.without_job-self-inside.ensures ∙ ap (without_solver c.args.job) c.self.invariant.state.solver) refl
    (let-go-proof c.self.inside.table.bank c.self.inside.table c.self.inside.proof c.self.inside.proof r c.args.job (without_solver c.args.job r.solver) refl
    (queue-dead c.self.inside c.args.job c.in-Some.out.number c.self.invariant by dead)
    c.self.invariant.state.proof)

pub invariant_of-self-in_default : goal.invariant_of-self-in_default
invariant_of-self-in_default c =
    let r : PoolRecord = record_of c.self.inside in
    let out : IsOut r c.args.job = subst (λ (v : PoolView). IsOut (replay v.origin v.history) c.args.job) (sym c.self.view_is) c.requires in
    let nowhere : given_job r c.args.job ≡ None =
    out-nowhere c.self.inside r c.args.job c.self.invariant.state (pool-rises c.self.inside c.self.invariant)
    (sym c.remove-given.ensures.value ∙ no-value c.remove-given.result c.in_default.not-Some) in
    let many : c.len.result ≡ length c.self.inside.proof.notes.items = omega (arith, c.self.inside.proof.notes.ok.0) in
    let-go-pool c.self.inside _ (Abandon c.args.job) c.args.job (without_solver c.args.job r.solver) c.self.invariant refl (λ is_predicate. out)
    (fewer-out c.args.job r (pool-rises c.self.inside c.self.invariant) out)
    (record {
      origin = refl;
      register = refl;
      positions = refl;
      history = c.push.ensures.events;
      notes = refl;
      before = c.push_reserved.ensures.items ∙ ap (λ (k : ℕ). c.self.inside.notes_before.items ++ k ∷ []) many;
      counted = refl;
      set_aside = refl;
      place = refl;
    })
    (record {
      jobs = c.remove-given.ensures.entries;
      last_job = refl;
      history_len = c.push.ensures.len;
      history_room = c.push.ensures.room;
      before_len = c.push_reserved.ensures.len;
      before_room = c.push_reserved.ensures.capacity;
    })
    (c.without_job-self-inside.ensures ∙ ap (without_solver c.args.job) c.self.invariant.state.solver) refl
    (let-go-proof c.self.inside.table.bank c.self.inside.table c.self.inside.proof c.self.inside.proof r c.args.job (without_solver c.args.job r.solver) refl
    (queue-nowhere c.self.inside c.args.job c.self.invariant nowhere)
    c.self.invariant.state.proof)
