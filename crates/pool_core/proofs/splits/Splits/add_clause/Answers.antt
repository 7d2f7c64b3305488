use Rattle.pool_core.specs.Splits.{split_view}
use Rattle.pool_core.proofs.AboutSplits.SplitsLemmas.{one-more-clause}
use Rattle.pool_core.proofs.splits.Splits.add_clause.Goals as goal

pub returns-clause-added : goal.returns-clause-added
returns-clause-added c = λ parts lines clauses model modelled is.
    one-more-clause (split_view c.args.self.now) parts lines clauses model modelled (record { names = c.args.names.now; line = c.args.line }) _ _
    c.push_reserved.ensures.more c.push_reserved-2.ensures.items is
