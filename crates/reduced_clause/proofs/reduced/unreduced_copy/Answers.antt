use Rattle.std.proofs.Common.{subst}
use Rattle.fol_base.specs.Clause.{TreeClause}
use Rattle.reduced_clause.specs.Reduced.{IsReduced}
use Rattle.reduced_clause.proofs.reduced.unreduced_copy.Goals as goal

pub returns-clause-reduced : goal.returns-clause-reduced
returns-clause-reduced c = λ q clauses.
    subst (λ (d : TreeClause). IsReduced q clauses d c.unreduced.result) c.in_ok-copied.ensures (c.unreduced.ensures.reduced q clauses)
