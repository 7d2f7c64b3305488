use Rattle.std.proofs.Common.{List, [], ◌∷◌, ◌++◌, ap₂, sym, ◌∙◌}
use Rattle.fol_base.specs.Literal.{clause_of}
use Rattle.finite_models.specs.declared.flat.FlatClause.{FlatClause}
use Rattle.finite_models.specs.Flattening.{flat_clause}
use Rattle.finite_models.proofs.AboutLoops.WalkLemmas.{mapped-more}
use Rattle.finite_models.proofs.flattening.all_flattened.Goals as goal

pub loop-clause-preserved : goal.loop-clause-preserved
loop-clause-preserved c =
    c.in_ok-push.ensures.items
    ∙ ap₂ (λ (fs : List FlatClause) (f : FlatClause). fs ++ f ∷ []) c.loop-clause.invariant c.in_ok-flattened.ensures
    ∙ sym (mapped-more flat_clause clause_of c.args.clauses.now c.loop-clause.clause-index c.clause-item.result c.loop-clause-test.true c.clause-item.is)
