use Rattle.std.proofs.Common.{sym, ◌∙◌}
use Rattle.pool_core.specs.Placing.{with_queue}
use Rattle.pool_core.proofs.AboutBeginnings.LivingLemmas.{not-some}
use Rattle.pool_core.proofs.AboutWaking.RefreshLemmas.{dead-waits-not, active-waits-not, new-waits, old-waits}
use Rattle.pool_core.proofs.pool.ProofState.waits.Goals as goal
use Rattle.pool_core.proofs.pool.ProofState.waits.Goals.{then-is_some-via-then-is_some, then-is_some-via-else-is_some+then-registration}

pub returns-then-is_some : goal.returns-then-is_some
returns-then-is_some c = λ bank table pairs r out is.
    elim c.then-is_some.branch [
      | then-is_some-via-then-is_some w ↦ sym (dead-waits-not bank table (with_queue pairs c.args.self.now) r c.args.jobs.now.entries c.args.number c.get-registration.result.now is
          c.get-registration.ensures out (sym c.is_some.ensures ∙ w.if-is_some.true))
      | then-is_some-via-else-is_some+then-registration w ↦ sym (active-waits-not bank table (with_queue pairs c.args.self.now) r c.args.jobs.now.entries c.args.number c.get-registration.result.now is
          c.get-registration.ensures out w.if-registration.true)
    ]

pub returns-then-is_none : goal.returns-then-is_none
returns-then-is_none c = λ bank table pairs r out is.
    c.if-is_none.true
    ∙ sym (new-waits bank table (with_queue pairs c.args.self.now) r c.args.jobs.now.entries c.args.number c.get-registration.result.now is
    c.get-registration.ensures out (sym c.is_some.ensures ∙ c.if-is_some.false) c.if-registration.false
    (sym (not-some c.get-registration.result.now.position c.is_none.result c.is_none.ensures) ∙ c.if-is_none.true))

pub returns-else-is_none : goal.returns-else-is_none
returns-else-is_none c = λ bank table pairs r out is.
    old-waits bank table (with_queue pairs c.args.self.now) r c.args.jobs.now.entries c.args.number c.get-registration.result.now is
    c.get-registration.ensures out (sym c.is_some.ensures ∙ c.if-is_some.false) c.if-registration.false c.is_out.result c.is_out.ensures
