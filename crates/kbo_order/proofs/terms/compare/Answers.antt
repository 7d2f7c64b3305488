use Rattle.std.proofs.Common.{ap, ap₂, ◌∙◌, arith}
use Rattle.fol_base.specs.Tree.{tree_size}
use Rattle.fol_base.specs.Term.{tree_of}
use Rattle.fol_base.specs.Order.{compare_trees}
use Rattle.kbo_order.proofs.AboutReading.ReadingLemmas.{instance-itself}
use Rattle.kbo_order.proofs.terms.compare.Goals as goal

pub compare_under-requires : goal.compare_under-requires
compare_under-requires c = record {
  left_size = omega (arith, ap tree_size (instance-itself (tree_of c.args.left.now)), c.requires.left_size);
  right_size = omega (arith, ap tree_size (instance-itself (tree_of c.args.right.now)), c.requires.right_size);
}

pub returns : goal.returns
returns c =
    c.compare_under.ensures
    ∙ ap₂ compare_trees (instance-itself (tree_of c.args.left.now)) (instance-itself (tree_of c.args.right.now))
