use Rattle.std.proofs.Common.{ap, ◌∙◌}
use Rattle.pool_history.specs.Answers.{death_of}
use Rattle.clause_register.specs.Register.{death_at}
use Rattle.pool_history.specs.Replay.{replay}
use Rattle.pool_history.specs.View.{PoolView}
use Rattle.pool_core.proofs.AboutReturns.ProofStateLemmas.{death-at}
use Rattle.pool_core.proofs.AboutClaims.StateLemmas.{record_of}
use Rattle.pool_core.proofs.pool.Pool.death.Goals as goal

pub returns : goal.returns
returns c =
    c.death.ensures
    ∙ ap (death_at c.self.inside.proof.register.clauses) c.from.ensures
    ∙ death-at c.self.inside.table.bank c.self.inside.table c.self.inside.proof (record_of c.self.inside) c.args.number c.self.invariant.state.proof
    ∙ ap (λ (v : PoolView). death_of (replay v.origin v.history) c.args.number) c.self.view_is
