use Rattle.std.proofs.Common.{◌≡◌, List, [], ◌∷◌, ◌++◌, refl, sym, ◌∙◌, subst}
use Rattle.pool_core.specs.Answered.{event_of}
use Rattle.std.specs.Prelude.{OnOk, OnErr}
use mathlib.Core.List.{IsPrefix}
use Rattle.turn_lock.specs.History.{AddsOwnKeys}
use Rattle.pool_history.specs.Events.{job_of}
use Rattle.pool_history.specs.Outcomes.{outcome_of}
use Rattle.pool_history.specs.Replay.{replay}
use Rattle.pool_history.specs.declared.event.Event.{Event}
use Rattle.worker_team.specs.Passes.{PoolPass}
use Rattle.worker_team.specs.Backs.{HasSolved}
use Rattle.worker_team.proofs.ClaimLemmas.{origin-held, turn-by}
use Rattle.worker_team.proofs.BackLemmas.{has-not-solved, has-solved, solution-right, solved-grown, solved-own-keys, stands-after}
use Rattle.worker_team.proofs.back.solve_back.Goals.{in-Ok, in-Err}
use Rattle.worker_team.proofs.back.solve_back.Goals as goal

pub give_model-requires : goal.give_model-requires
give_model-requires g c =
    let p = c.args.pass in
    let old = c.take-turn.result.state in
    let of = c.requires.pass in
    record {
      right =
          solution-right c.args.bank.now p old c.take-turn.ensures.seen of c.take-turn.ensures.keys
          (origin-held c.args.bank.now p old of c.take-turn.ensures.origin) c.history-before.ensures.lawful c.args.ticket.job c.args.answer
          c.requires.owned c.requires.right;
    }

pub give-requires-clause-grown : goal.give-requires-clause-grown
give-requires-clause-grown g c =
    let new = c.give_model.new.self in
    subst (λ (h : List Event). IsPrefix h new.history) (sym c.take-turn.ensures.history)
    (solved-grown c.take-turn.result.state new c.args.ticket.job c.args.answer c.give_model.result c.give_model.ensures.history c.give_model.ensures.unchanged)

pub give-requires-clause-keys : goal.give-requires-clause-keys
give-requires-clause-keys g c =
    let old = c.take-turn.result.state in
    let new = c.give_model.new.self in
    let p = c.args.pass in
    subst (λ (h : List Event). AddsOwnKeys job_of h c.take-turn.result.hold.pass.own new.history) (sym c.take-turn.ensures.history)
    (subst (λ (k : PoolPass). AddsOwnKeys job_of old.history k.own new.history) (sym c.take-turn.ensures.pass)
    (solved-own-keys p.seen old new p.own c.args.ticket.job c.args.answer c.give_model.result c.take-turn.ensures.seen c.requires.owned
    c.give_model.ensures.history c.give_model.ensures.unchanged))

pub returns-clause-solved : goal.returns-clause-solved
returns-clause-solved g c =
    let new = c.give_model.new.self in
    let bank = c.args.bank.now in
    let p = c.args.pass in
    let old = c.take-turn.result.state in
    let q = c.give.result in
    let turn =
    turn-by p c.take-turn.result.hold.pass q old new c.take-turn.result.hold.history c.take-turn.ensures.pass c.take-turn.ensures.history
    c.take-turn.ensures.seen c.take-turn.ensures.origin (c.give.ensures.lock ∙ sym c.requires.lock) c.give.ensures.shares c.give.ensures.start
    c.give.ensures.origin c.give.ensures.seen c.give.ensures.own c.give.ensures.added c.give.ensures.keys in
    elim c.match-give_model.branch [
      | in-Ok w ↦
          subst (HasSolved bank p c.args.ticket.job q) (sym w.stands-is)
          (has-solved bank p old new q c.requires.pass turn c.args.ticket.job c.args.answer w.has_outcome.result c.give_model.ensures.origin
          c.history-after.ensures.lawful (subst (λ r. OnOk r (new.history ≡ old.history ++ event_of c.args.ticket.job c.args.answer ∷ [])) w.in-Ok.is c.give_model.ensures.history)
          (w.has_outcome.ensures ∙ stands-after bank p old new q c.requires.pass turn (outcome_of (replay new.origin new.history)) c.give_model.ensures.origin refl))
      | in-Err w ↦
          subst (HasSolved bank p c.args.ticket.job q) (sym w.stands-is)
          (has-not-solved bank p old new q c.requires.pass turn c.args.ticket.job _
          (subst (λ r. OnErr r (new ≡ old)) w.in-Err.is c.give_model.ensures.unchanged) c.history-after.ensures.lawful)
    ]
