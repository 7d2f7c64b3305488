use Rattle.std.proofs.Common.{sym}
use Rattle.axiom_filter.proofs.AboutTables.IndexLemmas.{last-some, last-none}
use Rattle.axiom_filter.proofs.index.ends_with.Goals as goal

pub returns-in-Some : goal.returns-in-Some
returns-in-Some c = last-some c.args.list.now c.args.number c.in-Some.last.now (sym c.in-Some.ensures.value)

pub returns-in-None : goal.returns-in-None
returns-in-None c = last-none c.args.list.now c.args.number (sym c.in-None.ensures.value)
