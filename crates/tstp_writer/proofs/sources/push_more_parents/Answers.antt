use Rattle.tstp_writer.specs.LineTrees.{derived_name}
use Rattle.tstp_writer.proofs.AboutPrinted.PieceTexts.{next_added}
use Rattle.tstp_writer.proofs.sources.push_more_parents.Goals as goal

pub loop-parent-preserved : goal.loop-parent-preserved
loop-parent-preserved c =
    next_added (derived_name c.args.layout.now) c.args.parents.now c.loop-parent.parent-index _ _ _ c.loop-parent-test.true
    c.in_ok-push_next_parent.ensures c.loop-parent.invariant
