use Rattle.fol_base.specs.Lent.{lent_of}
use Rattle.tstp_writer.proofs.AboutPrinted.TextLemmas.{next_literal}
use Rattle.tstp_writer.proofs.clauses.push_more_literals.Goals as goal

pub loop-index-preserved : goal.loop-index-preserved
loop-index-preserved g c =
    next_literal c.args.symbols.now (g.L.LendsLiterals.meaning c.args.literals.now) c.loop-index.index (lent_of c.literal.result) _ _ _ _
    c.literal.ensures c.in_ok-bytes.ensures.added c.in_ok-push_literal.ensures c.loop-index.invariant
