use Rattle.rewriting.proofs.AboutSearches.TableLemmas.{none-there}
use Rattle.rewriting.proofs.searching.remember.Goals as goal

pub returns : goal.returns
returns c = λ clauses normal here.
    c.put.ensures clauses normal
    (here (none-there c.args.found.now c.is_some.result c.is_some.ensures c.if-is_some.false) (c.is_inner.ensures c.if-not-is_inner.false))
