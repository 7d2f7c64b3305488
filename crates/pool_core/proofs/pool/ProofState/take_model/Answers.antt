use Rattle.std.proofs.Common.{refl}
use Rattle.pool_history.specs.Record.{PoolRecord}
use Rattle.pool_core.proofs.AboutWaking.RefreshLemmas.{model-begins}
use Rattle.pool_core.proofs.pool.ProofState.take_model.Goals as goal

pub refresh_flipped-requires-clause-told : goal.refresh_flipped-requires-clause-told
refresh_flipped-requires-clause-told c =
    let told = c.requires.told in
    let now : PoolRecord = record told.2 { model = c.args.truths; modelled = c.args.clauses } in (
      told.0,
      told.1,
      now,
      model-begins told.0 told.1 c.args.self.now _ c.args.jobs.now.entries c.args.truths c.replace-before.new.dest c.replace-before.result c.args.clauses told.2
          told.4 told.3 c.replace-before.ensures.after c.replace-before.ensures.value refl,
    )

pub returns-clause-modelled : goal.returns-clause-modelled
returns-clause-modelled c = λ bank table r out is.
    c.refresh_flipped.ensures.refreshed bank table (record r { model = c.args.truths; modelled = c.args.clauses })
    (model-begins bank table c.args.self.now _ c.args.jobs.now.entries c.args.truths c.replace-before.new.dest c.replace-before.result c.args.clauses r
    is out c.replace-before.ensures.after c.replace-before.ensures.value refl)
