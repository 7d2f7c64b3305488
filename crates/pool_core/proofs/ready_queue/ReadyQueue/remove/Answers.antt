use Rattle.std.proofs.Common.{◌≡◌, ◌+◌, length, ap, sym, ◌∙◌, true≢false, arith}
use Rattle.std.specs.Prelude.{if◌then◌else◌}
use Rattle.clause_queue.specs.Pairs.{Waiting, without}
use Rattle.pool_core.proofs.AboutWaking.QueueLemmas.{one-taken, none-taken}
use Rattle.pool_core.proofs.ready_queue.ReadyQueue.remove.Goals as goal

pub invariant_of-self : goal.invariant_of-self
invariant_of-self c =
    let less : length c.self.inside.queue.pairs ≡ length (without c.args.number c.self.inside.queue.pairs) + 1 =
    one-taken c.args.number c.self.inside.queue.pairs c.rise.ensures (c.remove.ensures.found.0 c.if-remove.true) in
    let now : length c.remove.new.self.pairs ≡ length (without c.args.number c.self.inside.queue.pairs) = ap length c.remove.ensures.pairs in
    let few = c.self.invariant.few in
    record { few = omega (arith, less, now, few, c.saturating_sub-self-inside.ensures) }

pub invariant_of-self-else-remove : goal.invariant_of-self-else-remove
invariant_of-self-else-remove c =
    let same : length c.self.inside.queue.pairs ≡ length (without c.args.number c.self.inside.queue.pairs) =
    none-taken c.args.number c.self.inside.queue.pairs (λ has. true≢false (sym (c.remove.ensures.found.1 has) ∙ c.if-remove.false)) in
    let now : length c.remove.new.self.pairs ≡ length (without c.args.number c.self.inside.queue.pairs) = ap length c.remove.ensures.pairs in
    let few = c.self.invariant.few in
    record { few = omega (arith, same, now, few) }

pub returns-then-remove-clause-nodes : goal.returns-then-remove-clause-nodes
returns-then-remove-clause-nodes c =
    let less : length c.self.inside.queue.pairs ≡ length (without c.args.number c.self.inside.queue.pairs) + 1 =
    one-taken c.args.number c.self.inside.queue.pairs c.rise.ensures (c.remove.ensures.found.0 c.if-remove.true) in
    let now : length c.remove.new.self.pairs ≡ length (without c.args.number c.self.inside.queue.pairs) = ap length c.remove.ensures.pairs in
    let spare : c.remove.new.self.spare ≡ c.self.inside.queue.spare + 1 = c.remove.ensures.spare ∙ ap (λ b. c.self.inside.queue.spare + (if b then 1 else 0)) c.if-remove.true in
    let all : length c.self.inside.queue.pairs + c.self.inside.queue.spare ≡ length c.args.self.now.pairs + c.args.self.now.spare =
    ap (λ (w : Waiting). length w.pairs + w.spare) c.self.view_is in
    omega (arith, less, now, spare, all)

pub returns-else-remove-clause-nodes : goal.returns-else-remove-clause-nodes
returns-else-remove-clause-nodes c =
    let same : length c.self.inside.queue.pairs ≡ length (without c.args.number c.self.inside.queue.pairs) =
    none-taken c.args.number c.self.inside.queue.pairs (λ has. true≢false (sym (c.remove.ensures.found.1 has) ∙ c.if-remove.false)) in
    let now : length c.remove.new.self.pairs ≡ length (without c.args.number c.self.inside.queue.pairs) = ap length c.remove.ensures.pairs in
    let spare : c.remove.new.self.spare ≡ c.self.inside.queue.spare + 0 = c.remove.ensures.spare ∙ ap (λ b. c.self.inside.queue.spare + (if b then 1 else 0)) c.if-remove.false in
    let all : length c.self.inside.queue.pairs + c.self.inside.queue.spare ≡ length c.args.self.now.pairs + c.args.self.now.spare =
    ap (λ (w : Waiting). length w.pairs + w.spare) c.self.view_is in
    omega (arith, same, now, spare, all)
