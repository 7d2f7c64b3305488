use Rattle.std.proofs.Common.{Bool, ◌&&◌, Contains, map, refl, ap, ap₂, sym, ◌∙◌, subst}
use Rattle.std.specs.Prelude.{if◌then◌else◌}
use Rattle.fol_base.specs.Clause.{TreeClause, clause_size}
use Rattle.clause_queue.specs.Pairs.{numbers, with_pair, without}
use Rattle.pool_history.specs.Claiming.{pair_of, ready}
use Rattle.pool_history.specs.Record.{is_awake}
use Rattle.pool_core.specs.Placing.{with_queue}
use Rattle.pool_core.proofs.AboutWaking.AwakeLemmas.{awake-here, clause-here, tagged-here}
use Rattle.pool_core.proofs.AboutWaking.NodeLemmas.{none-without}
use Rattle.pool_core.proofs.AboutWaking.RefreshLemmas.{looked-state, looked-node, requeued}
use Rattle.pool_core.proofs.pool.ProofState.refresh.Goals as goal

pub wait_again-requires-clause-tags : goal.wait_again-requires-clause-tags
wait_again-requires-clause-tags c =
    let told = c.requires.told in
    tagged-here told.0 told.1 (with_queue _ c.args.self.now) told.3 told.4.proof

pub wait_again-requires-clause-absent : goal.wait_again-requires-clause-absent
wait_again-requires-clause-absent c = λ there.
    none-without c.args.number c.args.self.now.queue.pairs (subst (λ ps. Contains (numbers ps) c.args.number) c.remove.ensures.pairs there)

pub wait_again-requires-clause-room : goal.wait_again-requires-clause-room
wait_again-requires-clause-room c =
    let told = c.requires.told in
    looked-node told.0 told.1 c.args.self.now c.args.jobs.now.entries told.2 told.3 c.args.number c.remove.new.self.pairs c.remove.new.self.spare
    c.requires.there told.4 c.requires.nodes c.remove.ensures.pairs c.remove.ensures.nodes

pub returns-then-waits-clause-refreshed : goal.returns-then-waits-clause-refreshed
returns-then-waits-clause-refreshed c = λ bank table awake r is.
    looked-state bank table c.args.self.now _ c.args.jobs.now.entries awake r c.args.number c.requires.there is
    c.wait_again.ensures.rest
    (c.wait_again.ensures.put
    ∙ ap₂ (λ (b : Bool) (d : TreeClause). if b then with_pair (c.args.number, clause_size d) c.remove.new.self.pairs else c.remove.new.self.pairs)
    (awake-here bank table (with_queue (map (pair_of r) (ready r)) c.args.self.now) r is.proof c.args.number) (clause-here bank table (with_queue (map (pair_of r) (ready r)) c.args.self.now) r is.proof c.args.number)
    ∙ ap (λ ps. if is_awake r c.args.number then with_pair (pair_of r c.args.number) ps else ps) c.remove.ensures.pairs
    ∙ ap (λ b. if b && is_awake r c.args.number then with_pair (pair_of r c.args.number) (without c.args.number c.args.self.now.queue.pairs) else without c.args.number c.args.self.now.queue.pairs)
    (sym (sym (c.waits.ensures bank table (map (pair_of r) (ready r)) r is.given (requeued bank table c.args.self.now _ r (map (pair_of r) (ready r)) is.proof refl refl)) ∙ c.if-waits.true)))

pub returns-else-waits-clause-refreshed : goal.returns-else-waits-clause-refreshed
returns-else-waits-clause-refreshed c = λ bank table awake r is.
    looked-state bank table c.args.self.now _ c.args.jobs.now.entries awake r c.args.number c.requires.there is refl
    (c.remove.ensures.pairs
    ∙ ap (λ b. if b && is_awake r c.args.number then with_pair (pair_of r c.args.number) (without c.args.number c.args.self.now.queue.pairs) else without c.args.number c.args.self.now.queue.pairs)
    (sym (sym (c.waits.ensures bank table (map (pair_of r) (ready r)) r is.given (requeued bank table c.args.self.now _ r (map (pair_of r) (ready r)) is.proof refl refl)) ∙ c.if-waits.false)))
