use Rattle.std.proofs.Common.{List, All, ap, sym, ◌∙◌, subst}
use Rattle.std.specs.Prelude.{Option}
use Rattle.std.specs.Option.{unwrap_or}
use Rattle.pool_history.specs.View.{PoolView}
use Rattle.pool_history.specs.declared.event.Event.{Event}
use Rattle.worker_team.specs.Passes.{no_pool}
use Rattle.worker_team.specs.Team.{IsOfTeam, IsReadyInTeam}
use Rattle.worker_team.proofs.TeamLemmas.{first-pass, members}
use Rattle.worker_team.proofs.team.run_team.Goals as goal

pub join_all-pass-requires-clause-team : goal.join_all-pass-requires-clause-team
join_all-pass-requires-clause-team g c =
    let bank = c.args.bank.now in
    let lock = c.in_ok-lock.lock in
    let p = c.in_ok-lock.pass in
    let q = c.in_ok-pass.pass in
    let hired = c.in_ok-pass.team.items in
    let of =
    first-pass bank c.args.pool p c.in_ok-lock.ensures.seen c.in_ok-lock.ensures.own c.in_ok-lock.ensures.origin c.requires.bank
    c.history-history.ensures.inputs c.history-history.ensures.lawful in
    let ready : All (IsReadyInTeam lock bank p.origin p.start) hired =
    c.in_ok-pass.ensures.ready bank of
    (c.options-options.ensures ∙ ap (λ (o : Option PoolView). (unwrap_or o no_pool).origin.options) (sym c.in_ok-lock.ensures.origin)) in
    let team : All (IsOfTeam lock bank q.origin q.start) hired =
    subst (λ (o : Option PoolView). All (IsOfTeam lock bank o q.start) hired) (sym c.in_ok-pass.ensures.origin)
    (subst (λ (h : List Event). All (IsOfTeam lock bank p.origin h) hired) (sym c.in_ok-pass.ensures.start)
    (members lock bank p.origin p.start hired ready)) in
    (bank, c.in_ok-team.ensures.ended.1 q.origin q.start team)
