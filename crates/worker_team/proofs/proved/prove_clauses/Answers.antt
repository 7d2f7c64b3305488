use Rattle.std.proofs.Common.{map, ap, sym}
use Rattle.fol_base.specs.Literal.{clause_of}
use Rattle.pool_history.specs.View.{PoolView}
use Rattle.worker_team.proofs.ProvedLemmas.{ended-from}
use Rattle.worker_team.proofs.proved.prove_clauses.Goals as goal

pub run_team-requires-clause-bank : goal.run_team-requires-clause-bank
run_team-requires-clause-bank g c κs within = ap (λ (p : PoolView). p.bank) c.in_ok-pool.ensures

pub returns : goal.returns
returns g c =
    ended-from (map clause_of c.args.inputs.now) c.args.options c.in_ok-pool.pool c.in_ok-pool-2.pool _ c.in-Some.outcome c.in_ok-pool.ensures
    c.in_ok-pool-2.ensures.same
    c.history-history.ensures.lawful (sym c.in-Some.ensures)
