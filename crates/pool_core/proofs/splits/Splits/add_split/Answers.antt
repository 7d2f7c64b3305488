use Rattle.std.proofs.Common.{arith}
use Rattle.pool_core.specs.Splits.{split_view}
use Rattle.pool_core.proofs.AboutSplits.PartsLemmas.{split-added}
use Rattle.pool_core.proofs.splits.Splits.add_split.Goals as goal

pub returns-clause-split : goal.returns-clause-split
returns-clause-split c = λ r is.
    split-added (split_view c.args.self.now) _ c.args.steps.now.items c.push_reserved.new.self.items r c.args.step c.args.names.now c.len-line.result is
    c.requires.plain c.push_reserved.ensures.items (omega (arith, c.len-line.ensures, c.args.steps.now.ok.0)) c.add_clause.ensures.added
