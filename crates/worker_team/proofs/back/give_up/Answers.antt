use Rattle.std.proofs.Common.{List, sym, ◌∙◌, subst}
use Rattle.turn_lock.specs.History.{AddsOwnKeys}
use Rattle.pool_history.specs.Events.{job_of}
use Rattle.pool_history.specs.declared.event.Event.{Event}
use Rattle.worker_team.specs.Passes.{PoolPass}
use Rattle.pool_history.specs.declared.event.Event.TheVariants.{Abandon}
use Rattle.std.proofs.Common.{refl}
use Rattle.worker_team.proofs.ClaimLemmas.{origin-held, turn-by}
use Rattle.worker_team.proofs.BackLemmas.{given-up, out-here, own-keys}
use Rattle.worker_team.proofs.back.give_up.Goals as goal

pub abandon-requires : goal.abandon-requires
abandon-requires g c =
    let p = c.args.pass in
    let old = c.take-turn.result.state in
    let of = c.requires.pass in
    out-here c.args.bank.now p old c.take-turn.ensures.seen of c.take-turn.ensures.keys
    (origin-held c.args.bank.now p old of c.take-turn.ensures.origin) c.history-before.ensures.lawful c.args.job c.requires.owned c.requires.out

pub give-requires-clause-keys : goal.give-requires-clause-keys
give-requires-clause-keys g c =
    let old = c.take-turn.result.state in
    let new = c.abandon.new.self in
    let p = c.args.pass in
    subst (λ (h : List Event). AddsOwnKeys job_of h c.take-turn.result.hold.pass.own new.history) (sym c.take-turn.ensures.history)
    (subst (λ (k : PoolPass). AddsOwnKeys job_of old.history k.own new.history) (sym c.take-turn.ensures.pass)
    (own-keys p.seen old.history new.history p.own (Abandon c.args.job) c.args.job c.take-turn.ensures.seen c.requires.owned refl
    c.abandon.ensures.history))

pub returns-clause-given_up : goal.returns-clause-given_up
returns-clause-given_up g c =
    let new = c.abandon.new.self in
    let bank = c.args.bank.now in
    let p = c.args.pass in
    let old = c.take-turn.result.state in
    let q = c.give.result in
    let turn =
    turn-by p c.take-turn.result.hold.pass q old new c.take-turn.result.hold.history c.take-turn.ensures.pass c.take-turn.ensures.history
    c.take-turn.ensures.seen c.take-turn.ensures.origin (c.give.ensures.lock ∙ sym c.requires.lock) c.give.ensures.shares c.give.ensures.start
    c.give.ensures.origin c.give.ensures.seen c.give.ensures.own c.give.ensures.added c.give.ensures.keys in
    given-up bank p old new q c.requires.pass turn c.args.job c.abandon.ensures.origin c.history-after.ensures.lawful c.abandon.ensures.history
