use Rattle.tstp_checker.proofs.AboutDerivations.LinesLemmas.{clause-empty, clause-not-empty}
use Rattle.tstp_checker.proofs.lines.is_empty.Goals as goal

pub returns-then-is_empty : goal.returns-then-is_empty
returns-then-is_empty c = clause-empty c.args.clause.now _ _ c.is_empty.ensures c.is_empty-then-is_empty.ensures c.if-is_empty.true

pub returns-else-is_empty : goal.returns-else-is_empty
returns-else-is_empty c = clause-not-empty c.args.clause.now _ c.is_empty.ensures c.if-is_empty.false
