use Rattle.std.proofs.Common.{◌≡◌, ◌+◌, ◌-◌, length, ap, ◌∙◌, arith}
use Rattle.clause_queue.specs.Pairs.{Waiting}
use Rattle.clause_queue.specs.TreeFalls.{length-with_pair}
use Rattle.pool_core.proofs.AboutClaims.StateLemmas.{at-ok}
use Rattle.pool_core.proofs.ready_queue.ReadyQueue.push.Goals as goal

pub invariant_of-self : goal.invariant_of-self
invariant_of-self c =
    let more : length c.push.new.self.pairs ≡ length c.self.inside.queue.pairs + 1 =
    ap length (at-ok c.push.result _ c.unwrap.result c.unwrap.ensures c.push.ensures.pairs) ∙ length-with_pair (c.args.number, c.args.size) c.self.inside.queue.pairs in
    let few = c.self.invariant.few in
    record { few = omega (arith, more, few, c.saturating_add-self-inside.ensures) }

pub returns-clause-nodes : goal.returns-clause-nodes
returns-clause-nodes c =
    let more : length c.push.new.self.pairs ≡ length c.self.inside.queue.pairs + 1 =
    ap length (at-ok c.push.result _ c.unwrap.result c.unwrap.ensures c.push.ensures.pairs) ∙ length-with_pair (c.args.number, c.args.size) c.self.inside.queue.pairs in
    let less : c.push.new.self.spare ≡ c.self.inside.queue.spare - 1 = at-ok c.push.result _ c.unwrap.result c.unwrap.ensures c.push.ensures.spare in
    let pairs : length c.self.inside.queue.pairs ≡ length c.args.self.now.pairs = ap (λ (w : Waiting). length w.pairs) c.self.view_is in
    let spare : c.self.inside.queue.spare ≡ c.args.self.now.spare = ap (λ (w : Waiting). w.spare) c.self.view_is in
    omega (arith, more, less, pairs, spare, c.requires.room)
