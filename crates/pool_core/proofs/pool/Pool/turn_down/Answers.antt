use Rattle.std.proofs.Common.{◌≡◌, ◌++◌, [], ◌∷◌, ℕ, List, length, refl, ap, sym, ◌∙◌, subst, arith}
use Rattle.std.specs.Prelude.{IsTrue, true}
use Rattle.pool_history.specs.Answers.{IsTicket, dead_justifier}
use Rattle.pool_history.specs.Inputs.{IsRightBatch}
use Rattle.pool_history.specs.Lawful.{IsGivenOut}
use Rattle.pool_history.specs.Record.{lives}
use Rattle.pool_history.specs.Replay.{replay}
use Rattle.pool_history.specs.View.{PoolView}
use Rattle.pool_history.specs.declared.event.Event.{Event}
use Rattle.pool_history.specs.declared.event.Event.TheVariants.{Stale}
use Rattle.pool_core.proofs.AboutClaims.StateLemmas.{kept-pool}
use Rattle.pool_core.proofs.AboutReturns.StaleLemmas.{turned-down-pool, turned-down-ticket, stale-allowed}
use Rattle.pool_core.proofs.pool.Pool.turn_down.Goals as goal

pub invariant_of-self : goal.invariant_of-self
invariant_of-self c =
    kept-pool c.self.inside _ c.self.invariant (record {
      origin = refl;
      bank = refl;
      knows = λ ls known. known;
      register = refl;
      positions = refl;
      pairs = refl;
      spare = omega arith;
      jobs = refl;
      history = c.reserve.ensures.events;
      history_len = c.reserve.ensures.len;
      history_room = c.reserve.ensures.kept;
      notes = refl;
      before = refl;
      before_len = refl;
      before_room = omega arith;
      steps = refl;
      counted = refl;
      set_aside = refl;
      ended = refl;
      splits = refl;
      asserting = refl;
      solver = refl;
      last_job = refl;
      place = refl;
    })

pub invariant_of-self-in_err-reserve-2 : goal.invariant_of-self-in_err-reserve-2
invariant_of-self-in_err-reserve-2 c =
    kept-pool c.self.inside _ c.self.invariant (record {
      origin = refl;
      bank = refl;
      knows = λ ls known. known;
      register = refl;
      positions = refl;
      pairs = refl;
      spare = omega arith;
      jobs = refl;
      history = c.reserve.ensures.events;
      history_len = c.reserve.ensures.len;
      history_room = c.reserve.ensures.kept;
      notes = refl;
      before = c.reserve-2.ensures.items;
      before_len = c.reserve-2.ensures.len;
      before_room = let grown = c.reserve-2.ensures.capacity in omega (arith, grown);
      steps = refl;
      counted = refl;
      set_aside = refl;
      ended = refl;
      splits = refl;
      asserting = refl;
      solver = refl;
      last_job = refl;
      place = refl;
    })

pub invariant_of-self-2 : goal.invariant_of-self-2
invariant_of-self-2 c =
    let many : c.len.result ≡ length c.self.inside.proof.notes.items = omega (arith, c.self.inside.proof.notes.ok.0) in
    turned-down-pool c.self.inside _ c.args.batch.now.job c.args.justifier c.self.invariant
    (record {
      origin = refl;
      table = refl;
      proof = refl;
      positions = refl;
      jobs = refl;
      history = c.push.ensures.events ∙ ap (λ (es : List Event). es ++ Stale c.args.batch.now.job c.args.justifier ∷ []) c.reserve.ensures.events;
      history_room =
          let room = c.in_ok-reserve.ensures.room in
          omega (arith, room, c.push.ensures.len, c.push.ensures.room, c.reserve.ensures.len, c.len-more.ensures.len);
      before = c.push_reserved.ensures.items ∙ ap (λ (ks : List ℕ). ks ++ c.len.result ∷ []) c.reserve-2.ensures.items
          ∙ ap (λ (k : ℕ). c.self.inside.notes_before.items ++ k ∷ []) many;
      before_room =
          let room = c.in_ok-reserve-2.ensures.ok in
          omega (arith, room, c.push_reserved.ensures.len, c.push_reserved.ensures.capacity, c.reserve-2.ensures.len, c.len-more.ensures.len);
      counted = refl;
      set_aside = refl;
      solver = refl;
      last_job = refl;
      place = refl;
    })
    (stale-allowed c.self.inside c.args.batch.now c.args.justifier c.self.invariant
    (subst (λ (v : PoolView). IsRightBatch v.origin v.history c.args.batch.now) (sym c.self.view_is) c.requires.right)
    (subst (λ (v : PoolView). IsGivenOut (replay v.origin v.history) c.args.batch.now.job (λ j. IsTrue (lives (replay v.origin v.history) j.number))) (sym c.self.view_is)
    (record {
      given = c.requires.out.given;
      out = c.requires.out.out;
      says = subst (λ k. lives (replay c.args.self.now.origin c.args.self.now.history) k ≡ true) (sym c.requires.out.says.0) c.requires.living;
    }))
    (ap (λ (v : PoolView). dead_justifier (replay v.origin v.history) c.args.batch.now.work) c.self.view_is ∙ c.requires.dead))

pub returns-clause-ticket : goal.returns-clause-ticket
returns-clause-ticket c =
    let again = c.in_ok-ticket.ensures.again in
    subst (λ (es : List Event). IsTicket c.args.self.now.origin es c.args.told c.in_ok-ticket.ticket)
    (sym (c.push.ensures.events
    ∙ ap (λ (es : List Event). es ++ Stale c.args.batch.now.job c.args.justifier ∷ []) (c.reserve.ensures.events ∙ ap (λ (v : PoolView). v.history) c.self.view_is)))
    (turned-down-ticket c.args.self.now.origin c.args.self.now.history c.args.told c.args.batch.now.job c.args.justifier again.given c.in_ok-ticket.ticket
    again.out c.requires.told again.says)
