use Rattle.std.proofs.Common.{ap, refl, sym, ◌∙◌, subst}
use Rattle.std.specs.Prelude.{Ok, Err}
use Rattle.worker_team.specs.Passes.{PoolPass}
use Rattle.worker_team.specs.Jobs.{HasDoneClause, IsTrying}
use Rattle.worker_team.specs.declared.back.Brought.{Brought}
use Rattle.worker_team.specs.declared.back.Brought.TheVariants.{Again, Done}
use Rattle.worker_team.proofs.TryLemmas.{brought-of, first-try, next-try, still-out, still-owned, try-done, try-given-up, try-refused, trying-out, trying-owned}
use Rattle.worker_team.proofs.job.work_on.Goals as goal

pub tries-init : goal.tries-init
tries-init g c = record {
  lock = c.requires.lock;
  trying = first-try c.args.bank.now c.args.ticket.job c.args.pass c.args.knowledge c.args.ticket c.requires.pass c.requires.knows c.requires.ticket refl;
}

pub returns-in_default-clause-done : goal.returns-in_default-clause-done
returns-in_default-clause-done g c =
    let bank = c.args.bank.now in
    let job = c.args.ticket.job in
    let before = c.args.pass in
    let p = c.tries.pass in
    let r = c.give_up.result in
    subst (λ (s : PoolPass). HasDoneClause bank before job s c.broken.result.known) (sym c.broken.ensures.pass)
    (subst (HasDoneClause bank before job r) (sym c.broken.ensures.known)
    (try-given-up bank job before p c.tries.index c.tries.ticket c.tries.invariant.trying r (record {}) c.give_up.ensures.given_up))

pub give_up-requires-in-Err-clause-out : goal.give_up-requires-in-Err-clause-out
give_up-requires-in-Err-clause-out g c =
    let bank = c.args.bank.now in
    let job = c.args.ticket.job in
    let before = c.args.pass in
    let p = c.tries.pass in
    let q = c.bring-after.result.pass in
    let is = c.tries.invariant.trying in
    let brought =
    brought-of bank job before p c.tries.index c.tries.ticket is q c.in-Ok.made.index _ _ _ (Err c.in-Err.field-0) c.in-Ok.ensures.job c.told.ensures
    c.in-Err.is c.bring-after.ensures.brought in
    still-out bank p q job is.of_pool brought.pass brought.nothing (trying-owned bank job before p c.tries.index c.tries.ticket is)
    (trying-out bank job before p c.tries.index c.tries.ticket is)

pub give_up-requires-in-Err-clause-owned : goal.give_up-requires-in-Err-clause-owned
give_up-requires-in-Err-clause-owned g c =
    let bank = c.args.bank.now in
    let job = c.args.ticket.job in
    let before = c.args.pass in
    let p = c.tries.pass in
    let q = c.bring-after.result.pass in
    let is = c.tries.invariant.trying in
    let brought =
    brought-of bank job before p c.tries.index c.tries.ticket is q c.in-Ok.made.index _ _ _ (Err c.in-Err.field-0) c.in-Ok.ensures.job c.told.ensures
    c.in-Err.is c.bring-after.ensures.brought in
    still-owned bank p q job is.of_pool brought.pass brought.nothing (trying-owned bank job before p c.tries.index c.tries.ticket is)

pub returns-in-Err-clause-done : goal.returns-in-Err-clause-done
returns-in-Err-clause-done g c =
    let bank = c.args.bank.now in
    let job = c.args.ticket.job in
    let before = c.args.pass in
    let p = c.tries.pass in
    let q = c.bring-after.result.pass in
    let r = c.give_up-in-Err.result in
    let is = c.tries.invariant.trying in
    let now = c.in-Ok.made.index in
    let brought =
    brought-of bank job before p c.tries.index c.tries.ticket is q now _ _ _ (Err c.in-Err.field-0) c.in-Ok.ensures.job c.told.ensures c.in-Err.is
    c.bring-after.ensures.brought in
    subst (λ (s : PoolPass). HasDoneClause bank before job s c.broken-in-Err.result.known) (sym c.broken-in-Err.ensures.pass)
    (subst (HasDoneClause bank before job r) (sym c.broken-in-Err.ensures.known)
    (try-refused bank job before p c.tries.index c.tries.ticket is q r now.told c.in-Err.field-0 (record {}) brought c.give_up-in-Err.ensures.given_up))

pub tries-preserved : goal.tries-preserved
tries-preserved g c =
    let bank = c.args.bank.now in
    let job = c.args.ticket.job in
    let before = c.args.pass in
    let p = c.tries.pass in
    let q = c.bring-after.result.pass in
    let is = c.tries.invariant.trying in
    let now = c.in-Ok.made.index in
    let next = c.in-Ok-Again.next in
    let brought =
    brought-of bank job before p c.tries.index c.tries.ticket is q now _ _ _ (Ok (Again next)) c.in-Ok.ensures.job c.told.ensures
    (c.in-Ok-Again.is ∙ ap (λ (b : Brought). Ok b) (rw c.in-Ok-Again.is at c.in-Ok-Again.field-0-is)) c.bring-after.ensures.brought in
    record {
      lock = c.bring-after.ensures.lock;
      trying =
          subst (IsTrying bank job before q now) (sym c.in-Ok-Again.next-is)
          (next-try bank job before p c.tries.index c.tries.ticket is q now next c.in-Ok.ensures.index brought);
    }

pub returns-in-Ok-Done-clause-done : goal.returns-in-Ok-Done-clause-done
returns-in-Ok-Done-clause-done g c =
    let bank = c.args.bank.now in
    let job = c.args.ticket.job in
    let before = c.args.pass in
    let p = c.tries.pass in
    let q = c.bring-after.result.pass in
    let is = c.tries.invariant.trying in
    let now = c.in-Ok.made.index in
    let stands = c.in-Ok-Done.stands in
    let brought =
    brought-of bank job before p c.tries.index c.tries.ticket is q now _ _ _ (Ok (Done stands)) c.in-Ok.ensures.job c.told.ensures
    (c.in-Ok-Done.is ∙ ap (λ (b : Brought). Ok b) (rw c.in-Ok-Done.is at c.in-Ok-Done.field-0-is)) c.bring-after.ensures.brought in
    try-done bank job before p c.tries.index c.tries.ticket is q c.args.knowledge now stands c.requires.knows c.in-Ok.ensures.index brought
    (record { index = now; last = c.args.knowledge.last }) refl refl
