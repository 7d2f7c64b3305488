use Rattle.std.proofs.Common.{◌≡◌, List, ◌++◌, ap, ap₂, ◌∙◌, subst}
use Rattle.kernel_steps.specs.declared.key.Key.{Key}
use Rattle.pool_core.specs.Demanded.{plus}
use Rattle.pool_core.specs.Placing.{HasRoom, brought}
use Rattle.pool_core.specs.declared.demand.Demand.{Demand}
use Rattle.pool_core.proofs.taking.take_return_memory.Goals as goal

pub returns-clause-prepared : goal.returns-clause-prepared
returns-clause-prepared g c = λ split count fit.
    let is = (c.in_ok-prepared.ensures.prepared split count fit).in_bank in
    record { entries = is.entries; removals = is.removals }

pub returns-clause-room : goal.returns-clause-room
returns-clause-room g c =
    let is = (c.in_ok-prepared.ensures.prepared (c.requires.fit).0 (c.requires.fit).1 (c.requires.fit).2).in_bank in
    let same : c.in_ok-demand.demand ≡ brought c.in_ok-prepared.prepared = c.in_ok-demand.ensures ∙ ap₂ plus is.entries.counted is.removals.counted in
    subst (λ k. HasRoom c.reserve.new.self (brought c.in_ok-prepared.prepared) k) c.removal_count.ensures
    (subst (λ (d : Demand). HasRoom c.reserve.new.self d c.removal_count.result) same c.in_ok-reserve.ensures.room)

pub returns-clause-set_aside : goal.returns-clause-set_aside
returns-clause-set_aside g c =
    c.in_ok-append.ensures.items
    ∙ ap (λ (ks : List Key). c.args.set_aside.now.items ++ ks) (c.in_ok-prepared.ensures.prepared (c.requires.fit).0 (c.requires.fit).1 (c.requires.fit).2).heavy
