use Rattle.skolem.specs.Shape.{matrix_tree}
use Rattle.clausal_form.proofs.AboutNaming.PairLemmas.{factors-then}
use Rattle.clausal_form.proofs.naming.product_matrix.Goals as goal

pub returns : goal.returns
returns c = factors-then _ _ (matrix_tree c.args.first) (matrix_tree c.args.second) c.in_ok-members.ensures c.in_ok-push.ensures.ok
