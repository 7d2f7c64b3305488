use Rattle.tstp_lines.proofs.AboutReadings.WrittenLemmas.{written-not-after}
use Rattle.tstp_lines.proofs.written.is_written_clause.Goals as goal

pub returns-then-not-may_follow : goal.returns-then-not-may_follow
returns-then-not-may_follow c =
    written-not-after _ _ _ _ _ _ _ c.loop-literal-test.true c.literal-item.is c.literal_name-next.ensures c.if-not-may_follow.ensures
    c.loop-literal.invariant
