use Rattle.std.proofs.Common.{◌≡◌, ◌++◌, [], ◌∷◌, ℕ, map, length, append-nil, refl, ap, sym, ◌∙◌, subst, arith}
use Rattle.std.specs.Prelude.{is_some}
use Rattle.std.proofs.lemmas.Option.{slice_get_within}
use Rattle.pool_history.specs.Claiming.{ready, pair_of}
use Rattle.pool_core.specs.Demanded.{no_demand}
use Rattle.pool_core.specs.Placing.{IsTakeable}
use Rattle.pool_history.specs.Record.{PoolRecord}
use Rattle.pool_history.specs.Replay.{replay}
use Rattle.pool_history.specs.Returning.{becomes_active}
use Rattle.pool_core.specs.State.{IsProofStateOf}
use Rattle.pool_history.specs.View.{PoolView}
use Rattle.pool_core.proofs.AboutClaims.StateLemmas.{record_of}
use Rattle.pool_core.proofs.AboutReturns.TakenLemmas.{taken-pool, without, without-state, closed-follows}
use Rattle.pool_core.proofs.AboutReturns.TakeableLemmas.{IsToBeTaken, to-be-taken, after-closed, queue-without, no-more-room, no-deaths}
use Rattle.pool_core.proofs.pool.Pool.close.Goals as goal

pub push_reserved-requires : goal.push_reserved-requires
push_reserved-requires c =
    let to : IsToBeTaken c.self.inside c.args.batch c.args.number =
    to-be-taken c.self.inside c.args.batch c.args.number c.self.invariant
    (subst (λ (v : PoolView). IsTakeable v.origin v.history c.args.number c.args.batch) (sym c.self.view_is) c.requires.takeable) in
    let room = c.self.invariant.state.notes_room in
    omega (arith, room, to.some)

pub push-requires : goal.push-requires
push-requires c =
    let to : IsToBeTaken c.self.inside c.args.batch c.args.number =
    to-be-taken c.self.inside c.args.batch c.args.number c.self.invariant
    (subst (λ (v : PoolView). IsTakeable v.origin v.history c.args.number c.args.batch) (sym c.self.view_is) c.requires.takeable) in
    let room = c.self.invariant.state.history_room in
    omega (arith, room, to.some)

pub finish-requires : goal.finish-requires
finish-requires c =
    let to : IsToBeTaken c.self.inside c.args.batch c.args.number =
    to-be-taken c.self.inside c.args.batch c.args.number c.self.invariant
    (subst (λ (v : PoolView). IsTakeable v.origin v.history c.args.number c.args.batch) (sym c.self.view_is) c.requires.takeable) in
    record { there = slice_get_within c.self.inside.proof.register.clauses c.args.number to.living.0 to.living.1 }

pub invariant_of-self : goal.invariant_of-self
invariant_of-self c =
    let to : IsToBeTaken c.self.inside c.args.batch c.args.number =
    to-be-taken c.self.inside c.args.batch c.args.number c.self.invariant
    (subst (λ (v : PoolView). IsTakeable v.origin v.history c.args.number c.args.batch) (sym c.self.view_is) c.requires.takeable) in
    let r : PoolRecord = record_of c.self.inside in
    let s : PoolRecord = without c.self.inside.options c.args.batch.job r in
    let many : c.len.result ≡ length c.self.inside.proof.notes.items = omega (arith, c.self.inside.proof.notes.ok.0) in
    taken-pool c.self.inside _ c.args.batch to.given [] (becomes_active to.given.number s) c.self.invariant to.found
    (after-closed c.self.inside.options c.args.batch r to.given to.found
    (ap (λ (v : PoolView). is_some (replay v.origin v.history).ended) c.self.view_is ∙ c.requires.ended))
    to.allowed
    (record {
      origin = refl;
      positions = refl;
      jobs = c.remove.ensures.entries;
      history = c.push.ensures.events;
      history_len = c.push.ensures.len;
      history_room = c.push.ensures.room;
      before = c.push_reserved.ensures.items ∙ ap (λ (k : ℕ). c.self.inside.notes_before.items ++ k ∷ []) many;
      before_len = c.push_reserved.ensures.len;
      before_room = c.push_reserved.ensures.capacity;
      solver = refl;
      last_job = refl;
      place = refl;
    })
    (closed-follows c.self.inside.options c.args.batch.job to.given.number r)
    (subst (λ k. IsProofStateOf c.self.inside.table.bank c.self.inside.table c.finish.new.self (becomes_active k s)) (sym to.same)
    (c.finish.ensures.finished c.self.inside.table.bank c.self.inside.table s (map (pair_of s) (ready s))
    (queue-without c.self.inside c.args.batch.job c.args.number to.given c.self.inside.proof.queue.pairs c.self.invariant to.found to.same refl)
    (without-state c.self.inside.table.bank c.self.inside.table c.self.inside.table c.self.inside.options c.self.inside.proof c.self.inside.proof r c.args.batch.job
    (λ ls known. known) refl refl refl refl refl c.self.invariant.state.proof)))
    c.self.invariant.state.counted
    (sym (append-nil c.self.inside.set_aside.items))
    (no-deaths r (becomes_active to.given.number s) c.self.inside.proof.notes.items c.finish.new.self.notes.items refl c.finish.ensures.notes)
    (c.finish.ensures.room no_demand 0 (no-more-room c.self.inside.proof c.self.invariant.state.queue_room)).places.queue
