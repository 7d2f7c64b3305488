use Rattle.std.proofs.Common.{sym}
use Rattle.fol_base.specs.Term.{tree_of}
use Rattle.unifier.proofs.AboutClasses.ClashLemmas.{clash-answer}
use Rattle.unifier.proofs.unifying.solved.Goals as goal

pub returns-then-clash : goal.returns-then-clash
returns-then-clash c = clash-answer c.args.apart (tree_of c.args.left.now) (tree_of c.args.right.now) (sym c.if-clash.ensures)
