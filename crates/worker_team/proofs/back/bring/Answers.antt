use Rattle.std.proofs.Common.{◌≡◌, List, refl, sym, ◌∙◌, subst}
use Rattle.std.specs.Prelude.{IfOk, OnErr, is_some}
use mathlib.Core.List.{IsPrefix}
use Rattle.turn_lock.specs.History.{AddsOwnKeys}
use Rattle.pool_history.specs.Events.{job_of}
use Rattle.pool_history.specs.Answers.{IsAnswerToReturn, IsBackOf}
use Rattle.pool_history.specs.Outcomes.{outcome_of}
use Rattle.pool_history.specs.Replay.{replay}
use Rattle.pool_history.specs.declared.event.Event.{Event}
use Rattle.worker_team.specs.Passes.{PoolPass, stands_for}
use Rattle.worker_team.specs.Backs.{HasBrought}
use Rattle.worker_team.specs.declared.back.Brought.TheVariants.{Again, Done}
use Rattle.worker_team.proofs.ClaimLemmas.{origin-held, turn-by}
use Rattle.worker_team.proofs.BackLemmas.{batch-right, brought-again, brought-taken, brought-void, has-brought, has-not-brought, returned-grown, returned-own-keys, stands-after}
use Rattle.worker_team.proofs.back.bring.Goals.{in-Ok-Stale, in-Ok-Taken, in-Ok-Void, in-Err}
use Rattle.worker_team.proofs.back.bring.Goals as goal

pub give_back-requires-clause-right : goal.give_back-requires-clause-right
give_back-requires-clause-right g c =
    let p = c.args.pass in
    let old = c.take-turn.result.state in
    let of = c.requires.pass in
    batch-right c.args.bank.now p old c.take-turn.ensures.seen of c.take-turn.ensures.keys
    (origin-held c.args.bank.now p old of c.take-turn.ensures.origin) c.args.batch c.requires.owned c.requires.right

pub give-requires-clause-grown : goal.give-requires-clause-grown
give-requires-clause-grown g c =
    let new = c.give_back.new.self in
    subst (λ (h : List Event). IsPrefix h new.history) (sym c.take-turn.ensures.history)
    (returned-grown c.take-turn.result.state new c.args.told c.args.batch c.give_back.result c.give_back.ensures.answer c.give_back.ensures.unchanged)

pub give-requires-clause-keys : goal.give-requires-clause-keys
give-requires-clause-keys g c =
    let old = c.take-turn.result.state in
    let new = c.give_back.new.self in
    let p = c.args.pass in
    subst (λ (h : List Event). AddsOwnKeys job_of h c.take-turn.result.hold.pass.own new.history) (sym c.take-turn.ensures.history)
    (subst (λ (k : PoolPass). AddsOwnKeys job_of old.history k.own new.history) (sym c.take-turn.ensures.pass)
    (returned-own-keys p.seen old new p.own c.args.told c.args.batch c.give_back.result c.take-turn.ensures.seen c.requires.owned
    c.give_back.ensures.answer c.give_back.ensures.unchanged))

pub returns-clause-brought : goal.returns-clause-brought
returns-clause-brought g c =
    let new = c.give_back.new.self in
    let bank = c.args.bank.now in
    let p = c.args.pass in
    let old = c.take-turn.result.state in
    let q = c.give.result in
    let turn =
    turn-by p c.take-turn.result.hold.pass q old new c.take-turn.result.hold.history c.take-turn.ensures.pass c.take-turn.ensures.history
    c.take-turn.ensures.seen c.take-turn.ensures.origin (c.give.ensures.lock ∙ sym c.requires.lock) c.give.ensures.shares c.give.ensures.start
    c.give.ensures.origin c.give.ensures.seen c.give.ensures.own c.give.ensures.added c.give.ensures.keys in
    let stands-here : is_some (outcome_of (replay new.origin new.history)) ≡ stands_for q =
    stands-after bank p old new q c.requires.pass turn (outcome_of (replay new.origin new.history)) c.give_back.ensures.origin refl in
    elim c.match-give_back.branch [
      | in-Ok-Stale w ↦
          subst (HasBrought bank p c.args.batch.job c.args.told q) (sym w.brought-is)
          (has-brought bank p old new q c.requires.pass turn c.args.told c.args.batch.job (Again w.in-Ok-Stale.ticket) c.give_back.ensures.origin
          c.history-after.ensures.lawful
          (brought-again bank p old new q c.requires.pass turn c.args.told c.args.batch c.requires.owned w.in-Ok-Stale.field-0-0 w.in-Ok-Stale.field-0-1
          w.in-Ok-Stale.ticket
          (subst (λ b. IsAnswerToReturn old.origin old.history c.args.told c.args.batch b new.history) w.in-Ok-Stale.field-0-is
          (subst (λ r. IfOk r (λ b. IsAnswerToReturn old.origin old.history c.args.told c.args.batch b new.history)) w.in-Ok-Stale.is
          c.give_back.ensures.answer))
          (subst (IsBackOf old.bank) w.in-Ok-Stale.field-0-is
          (subst (λ r. IfOk r (IsBackOf old.bank)) w.in-Ok-Stale.is c.give_back.ensures.of_bank))))
      | in-Ok-Taken w ↦
          subst (HasBrought bank p c.args.batch.job c.args.told q) (sym w.brought-is)
          (has-brought bank p old new q c.requires.pass turn c.args.told c.args.batch.job (Done w.has_outcome.result) c.give_back.ensures.origin
          c.history-after.ensures.lawful
          (brought-taken bank p old new q c.requires.pass turn c.args.told c.args.batch c.requires.owned w.has_outcome.result
          (subst (λ b. IsAnswerToReturn old.origin old.history c.args.told c.args.batch b new.history) w.in-Ok-Taken.field-0-is
          (subst (λ r. IfOk r (λ b. IsAnswerToReturn old.origin old.history c.args.told c.args.batch b new.history)) w.in-Ok-Taken.is
          c.give_back.ensures.answer))
          (w.has_outcome.ensures ∙ stands-here)))
      | in-Ok-Void w ↦
          subst (HasBrought bank p c.args.batch.job c.args.told q) (sym w.brought-is)
          (has-brought bank p old new q c.requires.pass turn c.args.told c.args.batch.job (Done w.has_outcome-in-Ok-Void.result) c.give_back.ensures.origin
          c.history-after.ensures.lawful
          (brought-void bank p old new q c.requires.pass turn c.args.told c.args.batch c.requires.owned w.in-Ok-Void.field-0-0 w.has_outcome-in-Ok-Void.result
          (subst (λ b. IsAnswerToReturn old.origin old.history c.args.told c.args.batch b new.history) w.in-Ok-Void.field-0-is
          (subst (λ r. IfOk r (λ b. IsAnswerToReturn old.origin old.history c.args.told c.args.batch b new.history)) w.in-Ok-Void.is
          c.give_back.ensures.answer))
          (w.has_outcome-in-Ok-Void.ensures ∙ stands-here)))
      | in-Err w ↦
          subst (HasBrought bank p c.args.batch.job c.args.told q) (sym w.brought-is)
          (has-not-brought bank p old new q c.requires.pass turn c.args.told c.args.batch.job _
          (subst (λ r. OnErr r (new ≡ old)) w.in-Err.is c.give_back.ensures.unchanged) c.history-after.ensures.lawful)
    ]
