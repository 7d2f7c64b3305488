use Rattle.std.proofs.Common.{◌≡◌, ◌++◌, [], ◌∷◌, ◌+◌, ℕ, List, length, refl, ap, ◌∙◌, arith}
use Rattle.pool_history.specs.Record.{PoolRecord}
use Rattle.pool_history.specs.Replay.{replay}
use Rattle.pool_history.specs.Solving.{must_solve}
use Rattle.pool_history.specs.Tags.{name_count}
use Rattle.pool_history.specs.View.{PoolView}
use Rattle.pool_history.specs.declared.event.Event.{Event}
use Rattle.pool_history.specs.declared.event.Event.TheVariants.{ClaimSolve}
use Rattle.pool_core.proofs.AboutClaims.SolveLemmas.{solve-claimed, handed-count}
use Rattle.pool_core.proofs.AboutClaims.StateLemmas.{record_of, kept-pool}
use Rattle.pool_core.proofs.pool.Pool.give_clauses.Goals as goal

pub invariant_of-self : goal.invariant_of-self
invariant_of-self c =
    kept-pool c.self.inside _ c.self.invariant (record {
      origin = refl;
      bank = refl;
      knows = λ ls known. known;
      register = refl;
      positions = refl;
      pairs = refl;
      spare = omega arith;
      jobs = refl;
      history = c.reserve.ensures.events;
      history_len = c.reserve.ensures.len;
      history_room = c.reserve.ensures.kept;
      notes = refl;
      before = refl;
      before_len = refl;
      before_room = omega arith;
      steps = refl;
      counted = refl;
      set_aside = refl;
      ended = refl;
      splits = refl;
      asserting = refl;
      solver = refl;
      last_job = refl;
      place = refl;
    })

pub invariant_of-self-in_err-reserve-2 : goal.invariant_of-self-in_err-reserve-2
invariant_of-self-in_err-reserve-2 c =
    kept-pool c.self.inside _ c.self.invariant (record {
      origin = refl;
      bank = refl;
      knows = λ ls known. known;
      register = refl;
      positions = refl;
      pairs = refl;
      spare = omega arith;
      jobs = refl;
      history = c.reserve.ensures.events;
      history_len = c.reserve.ensures.len;
      history_room = c.reserve.ensures.kept;
      notes = refl;
      before = c.reserve-2.ensures.items;
      before_len = c.reserve-2.ensures.len;
      before_room = let grown = c.reserve-2.ensures.capacity in omega (arith, grown);
      steps = refl;
      counted = refl;
      set_aside = refl;
      ended = refl;
      splits = refl;
      asserting = refl;
      solver = refl;
      last_job = refl;
      place = refl;
    })

pub invariant_of-self-2 : goal.invariant_of-self-2
invariant_of-self-2 c =
    let r : PoolRecord = record_of c.self.inside in
    let many : c.len.result ≡ length c.self.inside.proof.notes.items = omega (arith, c.self.inside.proof.notes.ok.0) in
    let jobs : c.in_ok-job.job ≡ r.jobs + 1 = c.in_ok-job.ensures ∙ ap (λ (k : ℕ). k + 1) c.self.invariant.state.last_job in
    solve-claimed c.self.inside _ c.in_ok-job.job c.len-2.result c.names-names.result c.self.invariant
    (ap (λ (v : PoolView). (replay v.origin v.history).ended) c.self.view_is ∙ c.requires.open)
    (ap (λ (v : PoolView). must_solve (replay v.origin v.history)) c.self.view_is ∙ c.requires.unsolved)
    (omega (arith, jobs))
    (c.len-2.ensures.length ∙ ap length c.in_ok-clauses.ensures ∙ handed-count c.self.inside r c.self.invariant.state)
    (c.names-names.ensures ∙ ap name_count c.self.invariant.state.proof.splits.parts)
    (record {
      origin = refl;
      register = refl;
      positions = refl;
      history = c.push.ensures.events ∙ ap (λ (es : List Event). es ++ ClaimSolve c.in_ok-job.job ∷ []) c.reserve.ensures.events;
      notes = refl;
      before =
          c.push_reserved.ensures.items ∙ ap (λ (ks : List ℕ). ks ++ c.len.result ∷ []) c.reserve-2.ensures.items
          ∙ ap (λ (k : ℕ). c.self.inside.notes_before.items ++ k ∷ []) many;
      counted = refl;
      set_aside = refl;
      place = refl;
    })
    refl refl refl
    (let room = c.in_ok-reserve.ensures.room in omega (arith, room, c.push.ensures.len, c.push.ensures.room, c.reserve.ensures.len, c.len-more.ensures.len))
    (let room = c.in_ok-reserve-2.ensures.ok in
    omega (arith, room, c.push_reserved.ensures.len, c.push_reserved.ensures.capacity, c.reserve-2.ensures.len, c.len-more.ensures.len))
    refl refl
