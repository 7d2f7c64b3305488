use Rattle.tptp_tree.proofs.AboutTrees.EqualityLemmas.{names-lengths}
use Rattle.tptp_tree.proofs.equality.same_names.Goals as goal

pub returns-then-left-right : goal.returns-then-left-right
returns-then-left-right c = names-lengths c.args.left.now c.args.right.now c.if-left-right.true
