use Rattle.std.proofs.Common.{◌≡◌, ap, ◌∙◌}
use Rattle.pool_history.specs.Claiming.{next_given, next_choice}
use Rattle.pool_history.specs.Record.{PoolRecord}
use Rattle.pool_history.specs.Replay.{replay}
use Rattle.pool_history.specs.View.{PoolView}
use Rattle.pool_core.proofs.AboutClaims.StateLemmas.{record_of}
use Rattle.pool_history.proofs.AboutClaims.PickLemmas.{peek-is-given, old-choice, light-choice}
use Rattle.pool_core.proofs.pool.Pool.next_given.Goals as goal
use Rattle.pool_core.proofs.pool.Pool.next_given.Goals.{then-self, else-self}

pub returns : goal.returns
returns c =
    let r : PoolRecord = record_of c.self.inside in
    let choice : c.if-self.choice ≡ next_choice r =
    elim c.if-self.branch [
      | then-self w ↦ w.choice-is ∙ old-choice r c.self.inside.place_in_round c.self.invariant.state.place w.if-self.true
      | else-self w ↦ w.choice-is ∙ light-choice r c.self.inside.place_in_round c.self.invariant.state.place w.if-self.false
    ] in
    peek-is-given r c.self.inside.proof.queue.pairs c.if-self.choice c.peek.result c.self.invariant.state.proof.queue choice
    c.peek.ensures.picked c.peek.ensures.none
    ∙ ap (λ (v : PoolView). next_given (replay v.origin v.history)) c.self.view_is
