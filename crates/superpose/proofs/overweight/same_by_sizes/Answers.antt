use Rattle.fol_base.specs.Instance.{instance}
use Rattle.fol_base.specs.Term.{tree_of}
use Rattle.fol_base.specs.declared.clause.Side.TheVariants.{Left, Right}
use Rattle.unifier.specs.SolvedForm.{substitution_of}
use Rattle.superpose.proofs.AboutSteps.OwnLemmas.{sizes-differ}
use Rattle.superpose.proofs.overweight.same_by_sizes.Goals as goal

pub returns-then-left_size-right_size : goal.returns-then-left_size-right_size
returns-then-left_size-right_size c =
    let b = c.args.unifier.now in
    sizes-differ (instance (substitution_of b Left) (tree_of c.args.left.now)) (instance (substitution_of b Right) (tree_of c.args.right.now))
    c.in_ok-left_size.left_size c.in_ok-right_size.right_size c.in_ok-left_size.ensures c.in_ok-right_size.ensures c.if-left_size-right_size.true
