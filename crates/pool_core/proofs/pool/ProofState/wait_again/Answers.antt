use Rattle.std.proofs.Common.{refl, ap, sym, ◌∙◌}
use Rattle.std.proofs.lemmas.Bool.{cond-true, cond-false}
use Rattle.fol_base.specs.Clause.{clause_size}
use Rattle.clause_queue.specs.Pairs.{with_pair}
use Rattle.pool_core.proofs.AboutWaking.AwakeLemmas.{clause-of-number}
use Rattle.pool_core.proofs.AboutWaking.RefreshLemmas.{waits-again}
use Rattle.pool_core.proofs.pool.ProofState.wait_again.Goals as goal

pub returns-then-is_awake-clause-put : goal.returns-then-is_awake-clause-put
returns-then-is_awake-clause-put c =
    c.push.ensures.pairs
    ∙ ap (λ k. with_pair (c.args.number, k) c.args.self.now.queue.pairs)
    (c.size-size.ensures.size ∙ ap clause_size (sym (clause-of-number c.args.self.now.register.clauses c.args.number c.get.result.now c.get.ensures)))
    ∙ sym (cond-true _ _ _ (sym c.is_awake.ensures.under ∙ c.if-is_awake.true))

pub returns-else-is_awake-clause-put : goal.returns-else-is_awake-clause-put
returns-else-is_awake-clause-put c = sym (cond-false _ _ _ (sym c.is_awake.ensures.under ∙ c.if-is_awake.false))

pub returns-then-is_awake-clause-waits : goal.returns-then-is_awake-clause-waits
returns-then-is_awake-clause-waits c = λ bank table r pairs waiting queue is.
    waits-again bank table c.args.self.now _ r c.args.number pairs c.requires.there waiting queue is refl
    (c.push.ensures.pairs
    ∙ ap (λ k. with_pair (c.args.number, k) c.args.self.now.queue.pairs)
    (c.size-size.ensures.size ∙ ap clause_size (sym (clause-of-number c.args.self.now.register.clauses c.args.number c.get.result.now c.get.ensures)))
    ∙ sym (cond-true _ _ _ (sym c.is_awake.ensures.under ∙ c.if-is_awake.true)))

pub returns-else-is_awake-clause-waits : goal.returns-else-is_awake-clause-waits
returns-else-is_awake-clause-waits c = λ bank table r pairs waiting queue is.
    waits-again bank table c.args.self.now _ r c.args.number pairs c.requires.there waiting queue is refl
    (sym (cond-false _ _ _ (sym c.is_awake.ensures.under ∙ c.if-is_awake.false)))
